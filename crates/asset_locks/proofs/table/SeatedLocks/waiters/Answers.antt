use Rattle.std.proofs.Common.{ℕ, List, Option, ◌∷◌, [], refl, sym, ap, ◌∙◌}
use Rattle.std.specs.Prelude.{slice_get, flat_map}
use Rattle.asset_names.specs.declared.names.Txn.{Txn}
use Rattle.asset_names.specs.declared.operations.Op.{Op}
use Rattle.asset_chains.specs.Chained.{chain_of, behind}
use Rattle.asset_chains.proofs.Walks.{from_key}
use Rattle.asset_locks.specs.LockTable.{PendingRequest, waiting_at, waiters_in}
use Rattle.asset_locks.specs.Tied.{pending_at, LockParts, rows_in}
use Rattle.asset_lock_store.proofs.WalkLemmas.{begins, all_left, stays, fewer, left_split}
use Rattle.asset_locks.proofs.TableLemmas.{tied_inside, sits_at, waiting_seat, waiters_are, waits_there, one_waiter, one_waiter_less, no_waiter}
use Rattle.asset_locks.proofs.table.SeatedLocks.waiters.Goals.{in-Some-waiter_at+else-before-eq0, in_default-waiter_at}
use Rattle.asset_locks.proofs.table.SeatedLocks.waiters.Goals as goal

pub enrolled-init : goal.enrolled-init
enrolled-init c = record {
  home = begins c.self.inside.order c.self.inside.order refl c.laws.ensures.sound 0 c.first-next.result c.first-next.ensures;
  left = ap (λ (l : List ℕ). slice_get (flat_map (waiting_seat c.args.seats.now c.self.inside.pending.items c.args.x.0) l) c.args.n) (all_left c.self.inside.order c.self.inside.order refl c.laws.ensures.sound 0 c.first-next.result c.first-next.ensures);
}

pub enrolled-smaller : goal.enrolled-smaller
enrolled-smaller c = fewer c.self.inside.order c.self.inside.order refl c.laws.ensures.sound 0 c.in-Some.c c.next-next.result c.enrolled.next (c.enrolled.invariant.home c.in-Some.c c.in-Some.is) c.next-next.ensures.next c.in-Some.is

pub enrolled-preserved : goal.enrolled-preserved
enrolled-preserved c =
    let home = c.enrolled.invariant.home c.in-Some.c c.in-Some.is in
    let sits = (sits_at c.args.seats.now c.self.inside.pending.items c.self.inside.order c.self.inside.store (tied_inside c.self.inside.pending.items c.self.inside.order c.self.inside.store c.args.self.now c.args.seats.now c.self.view_is c.requires) c.laws.ensures.sound c.in-Some.c (c.laws.ensures.sound.listed 0 c.in-Some.c home)) in
    record {
      home = stays c.self.inside.order c.self.inside.order refl c.laws.ensures.sound 0 c.in-Some.c c.next-next.result c.enrolled.next home c.next-next.ensures.next c.in-Some.is;
      left =
          elim c.match-waiter_at.branch [
            | in-Some-waiter_at+else-before-eq0 w ↦
                ap (slice_get (flat_map (waiting_seat c.args.seats.now c.self.inside.pending.items c.args.x.0) (from_key c.next-next.result (chain_of c.self.inside.order 0)))) w.before-is
                ∙ one_waiter_less w.in-Some-waiter_at.waiter (flat_map (waiting_seat c.args.seats.now c.self.inside.pending.items c.args.x.0) (from_key c.next-next.result (chain_of c.self.inside.order 0))) ((waiting_seat c.args.seats.now c.self.inside.pending.items c.args.x.0) c.in-Some.c) c.enrolled.before (waits_there c.args.seats.now c.self.inside.pending.items c.args.x.0 c.in-Some.c sits.0 sits.1 (w.in-Some-waiter_at.waiter ∷ []) (w.in-Some-waiter_at.ensures sits.0 sits.1 ∙ ap (λ (p : List PendingRequest). waiting_at c.args.x.0 sits.0.0 (pending_at p c.in-Some.c)) c.deref.ensures.value)) w.if-before-eq0.false
            | in_default-waiter_at w ↦
                ap (slice_get (flat_map (waiting_seat c.args.seats.now c.self.inside.pending.items c.args.x.0) (from_key c.next-next.result (chain_of c.self.inside.order 0)))) w.before-is
                ∙ no_waiter (flat_map (waiting_seat c.args.seats.now c.self.inside.pending.items c.args.x.0) (from_key c.next-next.result (chain_of c.self.inside.order 0))) ((waiting_seat c.args.seats.now c.self.inside.pending.items c.args.x.0) c.in-Some.c) c.enrolled.before (waits_there c.args.seats.now c.self.inside.pending.items c.args.x.0 c.in-Some.c sits.0 sits.1 [] (w.in_default-waiter_at.ensures sits.0 sits.1 ∙ ap (λ (p : List PendingRequest). waiting_at c.args.x.0 sits.0.0 (pending_at p c.in-Some.c)) c.deref.ensures.value))
          ]
          ∙ sym (ap (λ (l : List ℕ). slice_get (flat_map (waiting_seat c.args.seats.now c.self.inside.pending.items c.args.x.0) l) c.enrolled.before) (left_split c.self.inside.order c.self.inside.order refl c.laws.ensures.sound 0 c.in-Some.c c.next-next.result c.enrolled.next home c.next-next.ensures.next c.in-Some.is))
          ∙ c.enrolled.invariant.left;
    }

pub returns-then-before-eq0 : goal.returns-then-before-eq0
returns-then-before-eq0 c =
    let home = c.enrolled.invariant.home c.in-Some.c c.in-Some.is in
    let sits = (sits_at c.args.seats.now c.self.inside.pending.items c.self.inside.order c.self.inside.store (tied_inside c.self.inside.pending.items c.self.inside.order c.self.inside.store c.args.self.now c.args.seats.now c.self.view_is c.requires) c.laws.ensures.sound c.in-Some.c (c.laws.ensures.sound.listed 0 c.in-Some.c home)) in
    let rest = flat_map (waiting_seat c.args.seats.now c.self.inside.pending.items c.args.x.0) (behind c.in-Some.c (chain_of c.self.inside.order 0)) in
    sym (one_waiter c.in-Some-waiter_at.waiter rest ((waiting_seat c.args.seats.now c.self.inside.pending.items c.args.x.0) c.in-Some.c) c.enrolled.before (waits_there c.args.seats.now c.self.inside.pending.items c.args.x.0 c.in-Some.c sits.0 sits.1 (c.in-Some-waiter_at.waiter ∷ []) (c.in-Some-waiter_at.ensures sits.0 sits.1 ∙ ap (λ (p : List PendingRequest). waiting_at c.args.x.0 sits.0.0 (pending_at p c.in-Some.c)) c.deref.ensures.value)) c.if-before-eq0.true)
    ∙ sym (ap (λ (o : Option ℕ). slice_get (flat_map (waiting_seat c.args.seats.now c.self.inside.pending.items c.args.x.0) (from_key o (chain_of c.self.inside.order 0))) c.enrolled.before) c.in-Some.is)
    ∙ c.enrolled.invariant.left
    ∙ sym (ap (λ (l : List (Txn × Op)). slice_get l c.args.n) (waiters_are c.args.seats.now c.self.inside.pending.items c.self.inside.order c.self.inside.store c.args.x.0))
    ∙ ap (λ (table : LockParts). slice_get (waiters_in (rows_in c.args.seats.now table) c.args.x.0) c.args.n) c.self.view_is

pub returns : goal.returns
returns c =
    sym (ap (λ (o : Option ℕ). slice_get (flat_map (waiting_seat c.args.seats.now c.self.inside.pending.items c.args.x.0) (from_key o (chain_of c.self.inside.order 0))) c.enrolled.before) c.in_default.is)
    ∙ c.enrolled.invariant.left
    ∙ sym (ap (λ (l : List (Txn × Op)). slice_get l c.args.n) (waiters_are c.args.seats.now c.self.inside.pending.items c.self.inside.order c.self.inside.store c.args.x.0))
    ∙ ap (λ (table : LockParts). slice_get (waiters_in (rows_in c.args.seats.now table) c.args.x.0) c.args.n) c.self.view_is
