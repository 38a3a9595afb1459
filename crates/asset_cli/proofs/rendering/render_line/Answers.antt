use Rattle.asset_grammar.specs.Grammar.{said_as}
use Rattle.asset_cli.proofs.TranscriptLemmas.{blank_goes_on, ask_goes_on, object_ends, bad_ends}
use Rattle.asset_cli.proofs.rendering.render_line.Goals as goal

pub returns-in-Blank-clause-goes_on : goal.returns-in-Blank-clause-goes_on
unfolding said_as
returns-in-Blank-clause-goes_on c = λ line more says. blank_goes_on _ _ line more _ _ (rw c.in-Blank.is at says)

pub returns-in_ok-ask-in-Ask-clause-goes_on : goal.returns-in_ok-ask-in-Ask-clause-goes_on
unfolding said_as
returns-in_ok-ask-in-Ask-clause-goes_on c =
    let asked = c.in_ok-ask-in-Ask.ensures in
    λ line more says. ask_goes_on _ _ _ line more _ _ _ _ (rw c.in-Ask.is at says) asked.text asked.history

pub returns-in_ok-push_bad_line-in-Object-clause-stops : goal.returns-in_ok-push_bad_line-in-Object-clause-stops
unfolding said_as
returns-in_ok-push_bad_line-in-Object-clause-stops c = λ line more says. object_ends _ _ _ line more _ _ _ (rw c.in-Object.is at says) c.in_ok-push_bad_line-in-Object.ensures

pub returns-in_ok-push_bad_line-in-Bad-clause-stops : goal.returns-in_ok-push_bad_line-in-Bad-clause-stops
unfolding said_as
returns-in_ok-push_bad_line-in-Bad-clause-stops c = λ line more says. bad_ends _ _ _ line more _ _ (rw c.in-Bad.is at says) c.in_ok-push_bad_line-in-Bad.ensures
