use Rattle.std.proofs.Common.{refl}
use Rattle.asset_lock_store.proofs.BlockingLemmas.{none_as}
use Rattle.asset_lock_store.proofs.WalkLemmas.{blocked_by_none}
use Rattle.asset_lock_store.proofs.store.LockStore.blocker_at.Goals as goal

pub returns-in_err-owner-clause-none : goal.returns-in_err-owner-clause-none
returns-in_err-owner-clause-none g c =
    none_as c.from_residual.result
    (blocked_by_none c.args.self.now c.args.seats.now (λ n. g.A.Allows.allows c.args.permits.now n c.args.request.asker.t.0 c.args.request.x.0 c.args.request.op) c.args.request.asker.t.0 c.args.request.op c.args.key c.in_err-owner.ensures.none)

pub returns-else-look_at-clause-none : goal.returns-else-look_at-clause-none
returns-else-look_at-clause-none g c = (c.look_at.ensures.look.seen c.if-look_at.false c.args.key refl).free
