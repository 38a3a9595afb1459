use Rattle.std.proofs.Common.{◌<◌, ◌≤◌, length, arith}
use Rattle.std.proofs.lemmas.List.{take_all}
use Rattle.asset_names.specs.Steps.{applied}
use Rattle.asset_reference.proofs.AppliedLemmas.{reverse_take_item}
use Rattle.asset_reference.proofs.tracks.track_entries.Goals as goal

pub entries-init : goal.entries-init
unfolding applied
entries-init c = c.new-track.ensures c.args.t.0

pub entries-preserved : goal.entries-preserved
entries-preserved c =
    let below : c.entries.entry-index < length c.args.entries.now = omega arith in
    rw (reverse_take_item c.args.entries.now c.entries.entry-index c.entry-item.result below c.entry-item.is) (c.after-track.ensures _ c.entries.invariant)

pub returns : goal.returns
returns c =
    let all : length c.args.entries.now ≤ c.entries.entry-index = omega arith in
    rw take_all at c.entries.invariant
