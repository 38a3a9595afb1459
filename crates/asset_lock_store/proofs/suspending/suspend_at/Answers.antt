use Rattle.std.proofs.Common.{sym, ◌∙◌}
use Rattle.asset_lock_store.proofs.StoreLemmas.{paused_conflict, paused_apart, suspended_some, suspended_none}
use Rattle.asset_lock_store.proofs.suspending.suspend_at.Goals as goal

pub returns-then-both_conflict-clause-locks : goal.returns-then-both_conflict-clause-locks
returns-then-both_conflict-clause-locks c =
    let lock = c.in-Some.lock.now in
    suspended_some c.args.locks.now c.args.key c.args.ops lock _ (sym c.in-Some.ensures.value) (paused_conflict c.args.ops lock (sym c.both_conflict.ensures ∙ c.if-both_conflict.true))

pub returns-else-both_conflict-clause-locks : goal.returns-else-both_conflict-clause-locks
returns-else-both_conflict-clause-locks c =
    let lock = c.in-Some.lock.now in
    suspended_some c.args.locks.now c.args.key c.args.ops lock _ (sym c.in-Some.ensures.value) (paused_apart c.args.ops lock (sym c.both_conflict.ensures ∙ c.if-both_conflict.false))

pub returns-in_default-clause-locks : goal.returns-in_default-clause-locks
returns-in_default-clause-locks c = suspended_none c.args.locks.now c.args.key c.args.ops (sym c.in_default.ensures.value)
