use Rattle.std.proofs.Common.{◌≡◌, reverse, take}
use Rattle.asset_names.specs.Steps.{applied}
use Rattle.asset_reference.specs.Tracks.{track_of}
use Rattle.asset_reference.proofs.tracks.track_entries.Given as goal

abbrev pub invariant-entries : goal.invariant-entries
invariant-entries l = l.track ≡ track_of (applied (reverse (take l.entry-index l.entries))) l.t.0
