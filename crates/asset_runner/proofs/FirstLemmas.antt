-- In which place a `Finished` of a name came back first.
use Rattle.std.proofs.Common.{◌≡◌, ℕ, suc, ◌+◌, Bool, true, false, cond, List, [], ◌∷◌, Some, None, sym, refl, ap, ◌∙◌, arith}
use Rattle.std.specs.Prelude.{slice_get}
use Rattle.asset_bodies.specs.declared.ends.JobEnd.TheVariants.{Unsettled}
use Rattle.asset_bodies.specs.Ends.{job_end}
use Rattle.asset_runner.specs.Runs.{JobRun, is_of, end_in}
use Rattle.asset_runner.specs.declared.arrival.Arrival.{Arrival}
use Rattle.asset_runner.specs.Fates.{answered_by}
use Rattle.asset_runner.specs.Rows.{runs_of}
use Rattle.asset_runner.specs.Firsts.{first_of}

-- without a first place nobody answered
pub end_none : (base : ℕ) (runs : List JobRun) (t : ℕ) → first_of base runs t ≡ None → end_in runs t ≡ Unsettled
end_none base [] t e = refl
end_none base (run ∷ runs) t e = go (is_of t run.answered) refl (λ later. end_none (base + 1) runs t later) where
  go : (b : Bool) → is_of t run.answered ≡ b → (first_of (base + 1) runs t ≡ None → end_in runs t ≡ Unsettled) → end_in (run ∷ runs) t ≡ Unsettled
  go true is rest = let none : Some base ≡ None = sym (ap (λ (b : Bool). cond b (Some base) (first_of (base + 1) runs t)) is) ∙ e in absurd (cc none)
  go false is rest =
      ap (λ (b : Bool). cond b (job_end t run.calls) (end_in runs t)) is
      ∙ rest (sym (ap (λ (b : Bool). cond b (Some base) (first_of (base + 1) runs t)) is) ∙ e)

module _ {X : Type 0} {B : X → Type 0} where
  -- what a first place says of the end
  pub end_first : (base : ℕ) (xs : List (Arrival X B)) (t place : ℕ) → first_of base (runs_of xs) t ≡ Some place
      → (i : ℕ) × (a : Arrival X B) × (place ≡ base + i) × (slice_get xs i ≡ Some a) × (end_in (runs_of xs) t ≡ job_end t a.returned.list.calls)
  end_first base [] t place e = absurd (cc e)
  end_first base (x ∷ xs) t place e = go (is_of t (answered_by x.fate)) refl (λ later. end_first (base + 1) xs t place later) where
    Is : List (Arrival X B) → ℕ → Type 0
    Is ys from = (i : ℕ) × (a : Arrival X B) × (place ≡ from + i) × (slice_get ys i ≡ Some a) × (end_in (runs_of ys) t ≡ job_end t a.returned.list.calls)

    go : (b : Bool) → is_of t (answered_by x.fate) ≡ b → (first_of (base + 1) (runs_of xs) t ≡ Some place → Is xs (base + 1)) → Is (x ∷ xs) base
    go true is rest =
        let here : Some base ≡ Some place = sym (ap (λ (b : Bool). cond b (Some base) (first_of (base + 1) (runs_of xs) t)) is) ∙ e in
        let same : base ≡ place = cc here in
        (0, x, omega (arith, same), refl, ap (λ (b : Bool). cond b (job_end t x.returned.list.calls) (end_in (runs_of xs) t)) is)
    go false is rest =
        let later = rest (sym (ap (λ (b : Bool). cond b (Some base) (first_of (base + 1) (runs_of xs) t)) is) ∙ e) in
        (suc later.0, later.1, omega (arith, later.2), later.3, ap (λ (b : Bool). cond b (job_end t x.returned.list.calls) (end_in (runs_of xs) t)) is ∙ later.4)
