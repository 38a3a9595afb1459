use Rattle.asset_deletion.proofs.WithoutLemmas.{marks_keep}
use Rattle.asset_deletion.proofs.going.dead_groups.Goals as goal

pub returns-clause-dead : goal.returns-clause-dead
returns-clause-dead c = λ n. rw (← c.groups.view_is) (marks_keep c.groups.inside.names.keys c.groups.inside.numbers.items _ c.groups.inside.is_dead.items c.groups.invariant.0 n)
