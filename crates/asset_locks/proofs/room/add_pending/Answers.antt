use Rattle.std.proofs.Common.{◌∷◌, [], None, List, length, ap, ◌∙◌, arith}
use Rattle.std.proofs.lemmas.List.{length-append}
use Rattle.asset_locks.specs.LockTable.{PendingRequest}
use Rattle.asset_locks.specs.Tied.{pending_at}
use Rattle.asset_locks.proofs.TableLemmas.{pending_more}
use Rattle.asset_locks.proofs.room.add_pending.Goals as goal

pub places-smaller : goal.places-smaller
places-smaller c =
    let more = ap (λ (l : List PendingRequest). length l) c.in-Ok.ensures.items ∙ length-append c.places.pending.items (None ∷ []) in omega (arith, more, c.places-test.true, c.len.ensures)

pub places-preserved : goal.places-preserved
places-preserved c =
    let more = ap (λ (l : List PendingRequest). length l) c.in-Ok.ensures.items ∙ length-append c.places.pending.items (None ∷ []) in
    record {
      more = omega (arith, more, c.places.invariant.more);
      same = λ d. ap (λ (l : List PendingRequest). pending_at l d) c.in-Ok.ensures.items ∙ pending_more c.places.pending.items d ∙ c.places.invariant.same d;
    }
