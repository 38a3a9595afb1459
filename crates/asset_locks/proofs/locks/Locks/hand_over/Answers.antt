use Rattle.std.proofs.Common.{is_some, refl, ap, ◌∙◌, rules}
use Rattle.asset_locks.specs.LockTable.{LockTable, enrolled_in}
use Rattle.asset_locks.specs.Tied.{rows_in}
use Rattle.asset_locks.proofs.HandLaws.{enrolled_handed}
use Rattle.asset_locks.proofs.EnrolledLemmas.{enrolled_same}
use Rattle.asset_locks.proofs.locks.Locks.hand_over.Goals as goal

pub invariant_of-self : goal.invariant_of-self
invariant_of-self c =
    let seats = c.self.inside.seats in
    let rows = rows_in seats c.self.inside.table in
    let changed = rows_in seats c.hand_over.new.self in
    (c.hand_over.ensures.tied, enrolled_same seats seats rows changed (λ d. refl) (λ n. ap (λ (table : LockTable). is_some (enrolled_in table n)) c.hand_over.ensures.done ∙ enrolled_handed _ _ _ rows n) c.self.invariant.1, c.hand_over.ensures.objects ∙ c.self.invariant.2)

pub returns-clause-done : goal.returns-clause-done
returns-clause-done c = search rules
