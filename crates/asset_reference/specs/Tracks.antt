-- What the steps that took effect say of one name.
use Rattle.std.specs.Prelude.{ℕ, ◌==◌, ◌||◌, List}
use Rattle.asset_names.specs.declared.steps.Step.{Step}
use Rattle.asset_names.specs.declared.steps.Step.TheVariants.{Initiate, Begin, Complete}
use Rattle.asset_names.specs.Arrows.{lists}
use Rattle.asset_names.specs.Steps.{initiated, begun, completed}
use Rattle.asset_reference.specs.declared.tracks.Track.{Track}

-- whether the transaction was initiated, begun and completed
unfoldable pub track_of : List Step → ℕ → Track
track_of steps t = record { initiated = lists (initiated steps) t; begun = lists (begun steps) t; completed = lists (completed steps) t }

-- the same after one more step
unfoldable pub track_after : Track → Step → ℕ → Track
track_after track (Initiate u parent) t = record track { initiated = u.0 == t || track.initiated }
track_after track (Begin u) t = record track { begun = u.0 == t || track.begun }
track_after track (Complete u) t = record track { completed = u.0 == t || track.completed }
track_after track step t = track
