-- What one more entry says of an object and of its permits.
use Rattle.std.proofs.Common.{◌≡◌, ℕ, Bool, true, false, cond, List, [], ◌∷◌, ◌++◌, refl, ◌∙◌, ap}
use Rattle.std.specs.Prelude.{ℤ}
use Rattle.asset_names.specs.declared.operations.Op.{Op}
use Rattle.asset_names.specs.declared.steps.Step.{Step}
use Rattle.asset_names.specs.Steps.{Entry, takes_effect, applied}
use Rattle.asset_names.specs.Operations.{Operation, permits, permitted_by, openers, opened_by, value_after}
use Rattle.asset_reference.specs.Scans.{value_past}
use Rattle.asset_names.proofs.AppliedLemmas.{applied_with_effect, applied_without_effect}

-- what is said of the applied after one more entry: of its step where that took effect
pub at_applied : {A : Type 0} (f : List Step → A) (entry : Entry) (older : List Entry) → f (applied (entry ∷ older)) ≡ cond (takes_effect entry.0 entry.1) (f (entry.0 ∷ applied older)) (f (applied older))
at_applied {A} f entry older = go (takes_effect entry.0 entry.1) refl where
  go : (carried : Bool) → takes_effect entry.0 entry.1 ≡ carried → f (applied (entry ∷ older)) ≡ cond carried (f (entry.0 ∷ applied older)) (f (applied older))
  go true e = ap f (applied_with_effect entry older e)
  go false e = ap f (applied_without_effect entry older e)

-- the value after one more operation
pub value_of_more : (counts : Operation → Bool) (x : ℕ) (first before : ℤ) (o : Operation) (os : List Operation) → before ≡ value_after counts x first os
    → value_past counts o x before ≡ value_after counts x first (o ∷ os)
unfolding value_after value_past
value_of_more counts x first before o os is = ap (value_past counts o x) is

-- the permits after one more entry
pub permits_at_entry : (x : ℕ) (op : Op) (entry : Entry) (older : List Entry) →
    permits (applied (entry ∷ older)) x op ≡ cond (takes_effect entry.0 entry.1) (permitted_by entry.0 (applied older) (permits (applied older) x op) x op) [] ++ permits (applied older) x op
unfolding permits
permits_at_entry x op entry older = at_applied (λ steps. permits steps x op) entry older ∙ go (takes_effect entry.0 entry.1) where
  go : (carried : Bool) → cond carried (permitted_by entry.0 (applied older) (permits (applied older) x op) x op ++ permits (applied older) x op) (permits (applied older) x op)
      ≡ cond carried (permitted_by entry.0 (applied older) (permits (applied older) x op) x op) [] ++ permits (applied older) x op
  go true = refl
  go false = refl

-- those who permit to anybody after one more entry
pub openers_at_entry : (x : ℕ) (op : Op) (entry : Entry) (older : List Entry) →
    openers (applied (entry ∷ older)) x op ≡ cond (takes_effect entry.0 entry.1) (opened_by entry.0 (applied older) (openers (applied older) x op) x op) [] ++ openers (applied older) x op
unfolding openers
openers_at_entry x op entry older = at_applied (λ steps. openers steps x op) entry older ∙ go (takes_effect entry.0 entry.1) where
  go : (carried : Bool) → cond carried (opened_by entry.0 (applied older) (openers (applied older) x op) x op ++ openers (applied older) x op) (openers (applied older) x op)
      ≡ cond carried (opened_by entry.0 (applied older) (openers (applied older) x op) x op) [] ++ openers (applied older) x op
  go true = refl
  go false = refl
