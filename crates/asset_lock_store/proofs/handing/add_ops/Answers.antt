use Rattle.std.proofs.Common.{false, sym, ap, ◌∙◌}
use Rattle.slab.specs.Slab.{with_value}
use Rattle.asset_names.specs.OpSets.{OpSet}
use Rattle.asset_lock_store.specs.Stored.{lock_at}
use Rattle.asset_lock_store.proofs.HandLemmas.{added_some}
use Rattle.asset_lock_store.proofs.handing.add_ops.Goals as goal

pub returns-in-Some-clause-locks : goal.returns-in-Some-clause-locks
returns-in-Some-clause-locks c = λ k.
    let lock = c.in-Some.lock.now in
    ap (λ (ops : OpSet). lock_at (with_value c.args.locks.now c.args.key (record lock { ops = ops; granted = false })) k) c.both-lock.ensures
    ∙ added_some c.args.locks.now c.args.key c.args.ops lock (sym c.in-Some.ensures.value) k
