use Rattle.std.proofs.Common.{true, sym, ap, ◌∙◌}
use Rattle.slab.specs.Slab.{with_value}
use Rattle.asset_names.specs.OpSets.{OpSet}
use Rattle.asset_lock_store.specs.Stored.{lock_at}
use Rattle.asset_lock_store.proofs.StoreLemmas.{granted_some}
use Rattle.asset_lock_store.proofs.granting.grant_to.Goals as goal

pub returns-in-Some-clause-locks : goal.returns-in-Some-clause-locks
returns-in-Some-clause-locks c = λ k.
    let lock = c.in-Some.lock.now in
    ap (λ (ops : OpSet). lock_at (with_value c.args.locks.now c.args.key (record lock { ops = ops; granted = true })) k) c.with-lock.ensures
    ∙ granted_some c.args.locks.now c.args.key c.args.op lock (sym c.in-Some.ensures.value) k
