-- Deadlocks in the words of a textbook.
use Rattle.std.specs.Prelude.{◌≡◌, ℕ, true, List, slice_get, Option, Some}
use Rattle.std.specs.List.{Contains}
use Rattle.asset_names.specs.declared.steps.Step.{Step}
use Rattle.asset_names.specs.Arrows.{lists}
use Rattle.asset_core.specs.Pending.{Pending}
use Rattle.asset_cycles.specs.Members.{own_labels, members_of}
use Rattle.asset_waits.specs.Waiting.{live_names, waits_for}
use Rattle.asset_waits.specs.Deadlocks.{deadlock_labels}

-- a chain of waits leads from t to u: t waits for u, or for one from whom a chain leads to u
pub data WaitChain (steps : List Step) (pending : List Pending) : ℕ → ℕ → Type 0 where
  waits : (t u : ℕ) → lists (waits_for steps pending t) u ≡ true → WaitChain steps pending t u
  through : (t u v : ℕ) → lists (waits_for steps pending t) u ≡ true → WaitChain steps pending u v → WaitChain steps pending t v

-- the line of the cycle with the label names t: t stands at one of its places
abbrev pub Names : List ℕ → List (Option ℕ) → ℕ → ℕ → Type 0
Names names labels label t = (k : ℕ) × Contains (members_of labels label) k × (slice_get names k ≡ Some t)

-- one line of a cycle names both t and u
abbrev pub OneLineNames : List Step → List Pending → ℕ → ℕ → Type 0
OneLineNames steps pending t u =
    (label : ℕ) × Contains (own_labels (deadlock_labels steps pending)) label
    × Names (live_names steps) (deadlock_labels steps pending) label t
    × Names (live_names steps) (deadlock_labels steps pending) label u
