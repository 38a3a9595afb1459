use Rattle.std.proofs.lemmas.Bool.{not-true, not-false}
use Rattle.std.proofs.Common.{sym, ◌∙◌}
use Rattle.asset_grammar.specs.Grammar.{said_as}
use Rattle.asset_scripts.proofs.PreambleLemmas.{takes_blank, takes_object, takes_double, takes_step, takes_bad}
use Rattle.asset_scripts.proofs.preamble.take_line.Goals as goal

pub returns-in-Blank-clause-takes : goal.returns-in-Blank-clause-takes
unfolding said_as
returns-in-Blank-clause-takes c = λ line step says. takes_blank line step _ (rw c.in-Blank.is at says)

pub returns-then-branch-clause-takes : goal.returns-then-branch-clause-takes
unfolding said_as
returns-then-branch-clause-takes c =
    let took = c.in_ok-add-in-Object.ensures in
    λ line step says. rw (rw c.if-branch.true at took.grown) (takes_object line step _ _ (rw c.in-Object.is at says) (not-true _ (sym took.added ∙ c.if-branch.true)))

pub returns-else-branch-clause-takes : goal.returns-else-branch-clause-takes
unfolding said_as
returns-else-branch-clause-takes c =
    let took = c.in_ok-add-in-Object.ensures in
    λ line step says. rw (rw c.if-branch.false at took.kept) (takes_double line step _ _ (rw c.in-Object.is at says) (not-false _ (sym took.added ∙ c.if-branch.false)))

pub returns-in-Ask-clause-takes : goal.returns-in-Ask-clause-takes
unfolding said_as
returns-in-Ask-clause-takes c = λ line step says. takes_step line step _ (rw c.in-Ask.is at says)

pub returns-in-Bad-clause-takes : goal.returns-in-Bad-clause-takes
unfolding said_as
returns-in-Bad-clause-takes c = λ line step says. takes_bad line step _ (rw c.in-Bad.is at says)
