use Rattle.asset_dep_tests.proofs.seated_deps.Table.end_marked.Goals as goal

pub invariant_of-self-in_err-t : goal.invariant_of-self-in_err-t
invariant_of-self-in_err-t c = c.next_marked.ensures.tied c.self.inside.seats c.self.invariant

pub invariant_of-self-2 : goal.invariant_of-self-2
invariant_of-self-2 c = c.next_marked.ensures.tied c.self.inside.seats c.self.invariant
