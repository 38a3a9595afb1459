use Rattle.asset_permit_tests.proofs.seated_locks.Table.new.Goals as goal

pub invariant_of-result : goal.invariant_of-result
invariant_of-result c = (c.new-2.ensures.tied c.new.result c.new.ensures.seats, c.new-3.ensures.tied c.new.result c.new.ensures.seats)
