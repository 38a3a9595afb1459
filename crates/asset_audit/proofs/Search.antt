-- Binary search in a list whose numbers rise.
use Rattle.std.proofs.Common.{◌≡◌, ℕ, ◌+◌, ◌<◌, ◌≤◌, List, length, slice_get, get_or, Some, sym, ap, ◌∙◌, subst, arith}
use native.Mathlib.Decide.{ℕ_discrete}
use Rattle.std.proofs.lemmas.Option.{slice_get-get_or}
use Rattle.asset_audit.specs.Audited.{Call, Rises}

some_inj : (a b : Call) → Some a ≡ Some b → a ≡ b
some_inj a b e = cc

pub below_middle : (l : List Call) (m n : ℕ) (d : Call) → Rises l → m < length l → (get_or l m d).0 < n → (k : ℕ) (c : Call) → k < m + 1 → slice_get l k ≡ Some c → c.0 < n
below_middle l m n d rises within lt k c k_lt e = at (ℕ_discrete k m)
  where
    mid : slice_get l m ≡ Some (get_or l m d)
    mid = slice_get-get_or l m d within

    at : Dec (k ≡ m) → c.0 < n
    at (yes same) = subst (λ (x : Call). x.0 < n) (some_inj _ _ (sym mid ∙ (ap (slice_get l) (sym same) ∙ e))) lt
    at (no other) = let h : c.0 < (get_or l m d).0 = rises k m c (get_or l m d) (omega arith) e mid in omega arith

pub above_middle : (l : List Call) (m n : ℕ) (d : Call) → Rises l → m < length l → n ≤ (get_or l m d).0 → (k : ℕ) (c : Call) → m ≤ k → slice_get l k ≡ Some c → n ≤ c.0
above_middle l m n d rises within le k c m_le e = at (ℕ_discrete k m)
  where
    mid : slice_get l m ≡ Some (get_or l m d)
    mid = slice_get-get_or l m d within

    at : Dec (k ≡ m) → n ≤ c.0
    at (yes same) = subst (λ (x : Call). n ≤ x.0) (some_inj _ _ (sym mid ∙ (ap (slice_get l) (sym same) ∙ e))) le
    at (no other) = let h : (get_or l m d).0 < c.0 = rises m k (get_or l m d) c (omega arith) mid e in omega arith
