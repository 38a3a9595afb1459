use Rattle.asset_dep_tests.proofs.seated_deps.Table.new.Goals as goal

pub invariant_of-result : goal.invariant_of-result
invariant_of-result c = c.new-2.ensures.tied _ c.new.ensures.seats
