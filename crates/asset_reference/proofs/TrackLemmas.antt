-- One more step and what it says of a name.
use Rattle.std.proofs.Common.{◌≡◌, ℕ, Bool, true, false, cond, List, ◌∷◌, refl}
use Rattle.asset_names.specs.declared.steps.Step.{Step}
use Rattle.asset_names.specs.declared.steps.Step.TheVariants.{Initiate, Begin, Read, Write, Add, Complete, Permit, PermitAny, Delegate, Depend, Commit, Abort, WaitFor}
use Rattle.asset_names.specs.Arrows.{lists}
use Rattle.asset_names.specs.Steps.{Entry, takes_effect, applied, initiated, initiated_by, begun, begun_by, completed, completed_by}
use Rattle.asset_names.proofs.AppliedLemmas.{applied_with_effect, applied_without_effect}
use Rattle.asset_reference.specs.Tracks.{track_of, track_after}

track_of_more : (step : Step) (steps : List Step) (t : ℕ) → track_of (step ∷ steps) t ≡ track_after (track_of steps t) step t
unfolding track_of track_after lists initiated initiated_by begun begun_by completed completed_by
track_of_more (Initiate u parent) steps t = refl
track_of_more (Begin u) steps t = refl
track_of_more (Read u x) steps t = refl
track_of_more (Write u x v) steps t = refl
track_of_more (Add u x d) steps t = refl
track_of_more (Complete u) steps t = refl
track_of_more (Permit giver taker obs ops) steps t = refl
track_of_more (PermitAny giver obs ops) steps t = refl
track_of_more (Delegate giver taker obs) steps t = refl
track_of_more (Depend kind a b) steps t = refl
track_of_more (Commit u) steps t = refl
track_of_more (Abort u) steps t = refl
track_of_more (WaitFor u) steps t = refl

-- one more entry: its step changes the track where it took effect
pub track_of_entry : (entry : Entry) (older : List Entry) (t : ℕ) → track_of (applied (entry ∷ older)) t ≡ cond (takes_effect entry.0 entry.1) (track_after (track_of (applied older) t) entry.0 t) (track_of (applied older) t)
track_of_entry entry older t = go (takes_effect entry.0 entry.1) refl where
  go : (carried : Bool) → takes_effect entry.0 entry.1 ≡ carried → track_of (applied (entry ∷ older)) t ≡ cond carried (track_after (track_of (applied older) t) entry.0 t) (track_of (applied older) t)
  go true e = rw (applied_with_effect entry older e) (track_of_more entry.0 (applied older) t)
  go false e = rw (applied_without_effect entry older e)
