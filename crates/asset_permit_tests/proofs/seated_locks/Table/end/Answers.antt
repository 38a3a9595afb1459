use Rattle.asset_permit_tests.proofs.seated_locks.Table.end.Goals as goal

pub invariant_of-self : goal.invariant_of-self
invariant_of-self c =
    let left = c.leave.new.self in
    ((c.release.ensures.leaves left c.leave.ensures.seats).0, c.drop_all.ensures.leaves left c.leave.ensures.seats)
