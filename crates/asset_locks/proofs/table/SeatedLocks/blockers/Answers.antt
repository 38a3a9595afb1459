use Rattle.std.proofs.Common.{ℕ, ◌≡◌, true, subst}
use Rattle.asset_names.specs.Arrows.{lists}
use Rattle.asset_locks.specs.Blocking.{is_blocker_in}
use Rattle.asset_locks.specs.Tied.{rows_of}
use Rattle.asset_lock_store.proofs.BlockingLemmas.{if_ok, named_by}
use Rattle.asset_locks.proofs.TableLemmas.{is_blocker_by, blocker_is_seated, tied_inside}
use Rattle.asset_locks.proofs.table.SeatedLocks.blockers.Goals as goal

pub returns-clause-named : goal.returns-clause-named
returns-clause-named g c =
    let inside = c.self.inside in
    let seats = c.args.seats.now in
    let t = c.args.t.t.0 in
    let tied = tied_inside inside.pending.items inside.order inside.store c.args.self.now seats c.self.view_is c.requires.tied in
    rw (← c.self.view_is)
    (if_ok c.blockers.result c.blockers.ensures.all c.blockers.ensures.only (λ found all only.
    named_by found.keys (is_blocker_in (rows_of seats inside.pending.items inside.order inside.store) (λ n. g.A.Allows.allows c.args.permits.now n c.args.t.t.0 c.args.x.0 c.args.op) t c.args.x.0 c.args.op)
    (λ n there. let by = only n there in subst (λ (m : ℕ). is_blocker_in (rows_of seats inside.pending.items inside.order inside.store) (λ n. g.A.Allows.allows c.args.permits.now n c.args.t.t.0 c.args.x.0 c.args.op) t c.args.x.0 c.args.op m ≡ true) by.4
    (is_blocker_by seats inside.pending.items inside.order inside.store tied c.laws-2.ensures.sound (λ n. g.A.Allows.allows c.args.permits.now n c.args.t.t.0 c.args.x.0 c.args.op) t c.args.x.0 c.args.op c.laws-3.ensures.owners by.0 by.1 by.2 by.3))
    (λ n h. let by = blocker_is_seated seats inside.pending.items inside.order inside.store tied c.laws-2.ensures.sound (λ n. g.A.Allows.allows c.args.permits.now n c.args.t.t.0 c.args.x.0 c.args.op) t c.args.x.0 c.args.op n h in
    subst (λ (m : ℕ). lists found.keys m ≡ true) by.4 (all by.0 by.1 by.2 by.3))))
