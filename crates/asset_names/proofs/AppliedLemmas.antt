-- What one more entry adds to the steps that took effect.
use Rattle.std.proofs.Common.{◌≡◌, true, false, List, ◌∷◌}
use Rattle.asset_names.specs.Steps.{Entry, takes_effect, applied}

pub applied_with_effect : (entry : Entry) (older : List Entry) → takes_effect entry.0 entry.1 ≡ true → applied (entry ∷ older) ≡ entry.0 ∷ applied older
unfolding applied
applied_with_effect entry older h = rw h

pub applied_without_effect : (entry : Entry) (older : List Entry) → takes_effect entry.0 entry.1 ≡ false → applied (entry ∷ older) ≡ applied older
unfolding applied
applied_without_effect entry older h = rw h
