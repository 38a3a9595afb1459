use Rattle.asset_names.specs.InSet.{only_in}
use Rattle.asset_permit_tests.proofs.seated_locks.Table.all_held.Goals as goal

pub held_among-held-requires-clause-only : goal.held_among-held-requires-clause-only
unfolding only_in
held_among-held-requires-clause-only c = λ x only. cc only
