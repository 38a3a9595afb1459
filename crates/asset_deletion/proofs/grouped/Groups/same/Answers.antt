use Rattle.std.proofs.Common.{refl, ap, ◌∙◌}
use Rattle.asset_deletion.specs.Grouping.{Grouping, number_in, same_number}
use Rattle.asset_deletion.proofs.GroupingLemmas.{same_in_group}
use Rattle.asset_deletion.proofs.grouped.Groups.same.Goals as goal

pub returns-in-Some-of-clause-same : goal.returns-in-Some-of-clause-same
unfolding same_number
returns-in-Some-of-clause-same c = rw (← c.in-Some.ensures.number, ← c.in-Some-of.ensures.number) refl

pub returns-in-Some-of-clause-group : goal.returns-in-Some-of-clause-group
returns-in-Some-of-clause-group c = λ entries is.
    returns-in-Some-of-clause-same c ∙ ap (λ (g : Grouping). same_number (number_in g c.args.t.0) (number_in g c.args.u.0)) is ∙ same_in_group entries c.args.t.0 c.args.u.0

pub returns-in-None-of-clause-same : goal.returns-in-None-of-clause-same
unfolding same_number
returns-in-None-of-clause-same c = rw (← c.in-Some.ensures.number, ← c.in-None-of.ensures.number) refl

pub returns-in-None-clause-same : goal.returns-in-None-clause-same
unfolding same_number
returns-in-None-clause-same c = rw (← c.in-None.ensures.number) refl
