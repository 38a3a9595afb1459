use Rattle.std.proofs.Common.{◌+◌, sym, ap, ◌∙◌}
use Rattle.asset_core.specs.Pending.{Facility}
use Rattle.asset_grammar.specs.Grammar.{said_as}
use Rattle.asset_standing.specs.Standing.{steps_left}
use Rattle.asset_standing.proofs.StepLemmas.{left_blank, left_step, left_object, left_bad}
use Rattle.asset_standing.proofs.steps.take_line.Goals as goal

pub returns-in-Blank-clause-good : goal.returns-in-Blank-clause-good
unfolding said_as
returns-in-Blank-clause-good c = λ line more n says. left_blank line more n c.args.core.now (rw c.in-Blank.is at says)

pub returns-in_ok-ask-in-Ask-clause-good : goal.returns-in_ok-ask-in-Ask-clause-good
unfolding said_as
returns-in_ok-ask-in-Ask-clause-good c = λ line more n says.
    left_step line more n c.args.core.now c.args.step.now (rw c.in-Ask.is at says) ∙ ap (λ (facility : Facility). steps_left more (n + 1) facility) (sym c.in_ok-ask-in-Ask.ensures.stepped)

pub returns-in-Object-clause-bad : goal.returns-in-Object-clause-bad
unfolding said_as
returns-in-Object-clause-bad c = λ line more n says. left_object line more n c.args.core.now c.in-Object.field-0 (rw c.in-Object.is at says)

pub returns-in-Bad-clause-bad : goal.returns-in-Bad-clause-bad
unfolding said_as
returns-in-Bad-clause-bad c = λ line more n says. left_bad line more n c.args.core.now (rw c.in-Bad.is at says)
