use Rattle.asset_permit_tests.proofs.seated_permits.Table.drop_all.Goals as goal

pub invariant_of-self : goal.invariant_of-self
invariant_of-self c = c.drop_all.ensures.leaves c.leave.new.self c.leave.ensures.seats
