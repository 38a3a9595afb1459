use Rattle.std.proofs.Common.{get_or, ◌∙◌, ap}
use Rattle.asset_serial.specs.Following.{entry_listed_at, entries_at, followed_by}
use Rattle.asset_serial.proofs.FollowLemmas.{followed_none, part_follows, part_followed}
use Rattle.asset_serial.proofs.copying.copy_block.Goals as goal

pub indices-init : goal.indices-init
unfolding entries_at
indices-init c = followed_none c.args.left.now

pub copy_entry-requires : goal.copy_entry-requires
unfolding entries_at
copy_entry-requires c =
    rw c.indices.invariant (part_follows (entry_listed_at c.args.history.now.entries) c.args.left.now c.args.block.now c.indices.i 0 c.indices-test.true c.requires)

pub indices-preserved : goal.indices-preserved
unfolding entries_at
indices-preserved c =
    let add = entry_listed_at c.args.history.now.entries in
    c.copy_entry.ensures ∙ ap (λ h. followed_by h (add (get_or c.args.block.now c.indices.i 0))) c.indices.invariant
    ∙ part_followed add c.args.left.now c.args.block.now c.indices.i 0 c.indices-test.true
