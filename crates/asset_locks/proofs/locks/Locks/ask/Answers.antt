use Rattle.std.proofs.Common.{refl, sym, subst, ◌∙◌, rules}
use Rattle.asset_locks.specs.LockTable.{LockTable}
use Rattle.asset_locks.specs.Tied.{rows_in, SittersAreEnrolled}
use Rattle.asset_locks.proofs.EnrolledLemmas.{enrolled_same, enrolled_after_ask, either_way}
use Rattle.asset_locks.proofs.locks.Locks.ask.Goals as goal

pub invariant_of-self : goal.invariant_of-self
invariant_of-self c = search rules

pub invariant_of-self-2 : goal.invariant_of-self-2
invariant_of-self-2 c =
    let seats = c.self.inside.seats in
    let rows = rows_in seats c.number_for.new.table in
    let changed = rows_in seats c.ask.new.self in
    let were = subst (λ (l : LockTable). SittersAreEnrolled seats l) (sym (c.number_for.ensures.rows seats)) c.self.invariant.1 in
    (c.ask.ensures.tied, enrolled_same seats seats rows changed (λ d. refl) (either_way c.ask.result rows changed _ c.ask.ensures.done c.ask.ensures.unchanged (enrolled_after_ask _ _ _ _ _)) were, c.ask.ensures.objects ∙ c.number_for.ensures.objects)
