-- Names in buckets: what the last one of a bucket says.
use Rattle.std.proofs.Common.{◌≡◌, ℕ, zero, suc, ◌+◌, ◌<◌, ◌≤◌, cond, eqb, Bool, true, false, List, [], ◌∷◌, ◌++◌, length, get_or, set, refl, sym, ap, ◌∙◌, arith, inl, inr, true≢false}
use Rattle.std.proofs.lemmas.Bool.{cases_eq, eq-eqb, ne_eqb, eqb-true, cond-true, cond-false}
use Rattle.std.proofs.lemmas.List.{length-set, length_push, get_or-set_same, get_or-set_other, get_or_append_left, get_or_push}
use Rattle.asset_name_groups.specs.Index.{bucket_in, last_in, IsIndexed}

-- the last one is below the bound
pub last_low : (names : List ℕ) (buckets bucket n : ℕ) → last_in names buckets bucket n ≤ n
unfolding last_in
last_low names buckets bucket zero = omega arith
last_low names buckets bucket (suc n) = go (eqb (bucket_in (get_or names n 0) buckets) bucket) (last_low names buckets bucket n) where
  go : (here : Bool) → last_in names buckets bucket n ≤ n → cond here (suc n) (last_in names buckets bucket n) ≤ suc n
  go true low = omega arith
  go false low = omega (arith, low)

-- the last one is in the bucket
pub last_is_in : (names : List ℕ) (buckets bucket n k : ℕ) → last_in names buckets bucket n ≡ suc k → (k < n) × (bucket_in (get_or names k 0) buckets ≡ bucket)
unfolding last_in
last_is_in names buckets bucket zero k is = absurd (omega (arith, is))
last_is_in names buckets bucket (suc n) k is = go (eqb (bucket_in (get_or names n 0) buckets) bucket) refl is (last_is_in names buckets bucket n k) where
  go : (here : Bool) → eqb (bucket_in (get_or names n 0) buckets) bucket ≡ here → cond here (suc n) (last_in names buckets bucket n) ≡ suc k
      → (last_in names buckets bucket n ≡ suc k → (k < n) × (bucket_in (get_or names k 0) buckets ≡ bucket)) → (k < suc n) × (bucket_in (get_or names k 0) buckets ≡ bucket)
  go true e is before = let same : k ≡ n = omega (arith, is) in (omega (arith, same), ap (λ m. bucket_in (get_or names m 0) buckets) same ∙ eqb-true _ bucket e)
  go false e is before = (omega (arith, (before is).0), (before is).1)

-- none after the last one is in the bucket
pub none_after : (names : List ℕ) (buckets bucket n k : ℕ) → last_in names buckets bucket n ≤ k → k < n → bucket_in (get_or names k 0) buckets ≡ bucket → ⊥
unfolding last_in
none_after names buckets bucket zero k low below is = omega (arith, below)
none_after names buckets bucket (suc n) k low below is = go (eqb (bucket_in (get_or names n 0) buckets) bucket) refl low (none_after names buckets bucket n k) where
  go : (here : Bool) → eqb (bucket_in (get_or names n 0) buckets) bucket ≡ here → cond here (suc n) (last_in names buckets bucket n) ≤ k
      → (last_in names buckets bucket n ≤ k → k < n → bucket_in (get_or names k 0) buckets ≡ bucket → ⊥) → ⊥
  go true e low before = omega (arith, low, below)
  go false e low before = elim (cases_eq k n) [
    | inl same ↦ true≢false (sym (eq-eqb _ bucket (sym (ap (λ m. bucket_in (get_or names m 0) buckets) same) ∙ is)) ∙ e)
    | inr not ↦ before low (omega arith) is
  ]

-- ---- one more name
-- a later name changes nothing below it
pub last_stays : (names : List ℕ) (t buckets bucket n : ℕ) → n ≤ length names → last_in (names ++ t ∷ []) buckets bucket n ≡ last_in names buckets bucket n
unfolding last_in
last_stays names t buckets bucket zero low = refl
last_stays names t buckets bucket (suc n) low =
    let here : get_or (names ++ t ∷ []) n 0 ≡ get_or names n 0 = get_or_append_left names (t ∷ []) 0 n (omega (arith, low)) in
    let rest = last_stays names t buckets bucket n (omega (arith, low)) in
    λ i. cond (eqb (bucket_in (here i) buckets) bucket) (suc n) (rest i)

last_here : (names : List ℕ) (t buckets bucket : ℕ) → bucket_in t buckets ≡ bucket → last_in (names ++ t ∷ []) buckets bucket (suc (length names)) ≡ suc (length names)
unfolding last_in
last_here names t buckets bucket is =
    cond-true (eqb (bucket_in (get_or (names ++ t ∷ []) (length names) 0) buckets) bucket) (suc (length names)) (last_in (names ++ t ∷ []) buckets bucket (length names))
    (eq-eqb (bucket_in (get_or (names ++ t ∷ []) (length names) 0) buckets) bucket (ap (λ name. bucket_in name buckets) (get_or_push names t 0 (length names) refl) ∙ is))

last_elsewhere : (names : List ℕ) (t buckets bucket : ℕ) → (bucket_in t buckets ≡ bucket → ⊥) → last_in (names ++ t ∷ []) buckets bucket (suc (length names)) ≡ last_in names buckets bucket (length names)
unfolding last_in
last_elsewhere names t buckets bucket not =
    cond-false (eqb (bucket_in (get_or (names ++ t ∷ []) (length names) 0) buckets) bucket) (suc (length names)) (last_in (names ++ t ∷ []) buckets bucket (length names))
    (ne_eqb (bucket_in (get_or (names ++ t ∷ []) (length names) 0) buckets) bucket (λ is. not (sym (ap (λ name. bucket_in name buckets) (get_or_push names t 0 (length names) refl)) ∙ is)))
    ∙ last_stays names t buckets bucket (length names) (omega arith)

pub one_name_more : (names before last : List ℕ) (t bucket : ℕ) → IsIndexed names before last → bucket ≡ bucket_in t (length last) → bucket < length last
    → IsIndexed (names ++ t ∷ []) (before ++ get_or last bucket 0 ∷ []) (set last bucket (suc (length names)))
one_name_more names before last t bucket is at within =
    let size : length (set last bucket (suc (length names))) ≡ length last = length-set last bucket (suc (length names)) in
    let more : length (names ++ t ∷ []) ≡ suc (length names) = omega (arith, length_push names t) in
    record {
      has_buckets = omega (arith, size, is.has_buckets);
      long = length_push before (get_or last bucket 0) ∙ ap (λ n. n + 1) is.long ∙ sym (length_push names t);
      last_is = λ b below. rw (size, more) (elim (cases_eq b bucket) [
        | inl same ↦ rw same (get_or-set_same last bucket (suc (length names)) 0 within ∙ sym (last_here names t (length last) bucket (sym at)))
        | inr not ↦
            get_or-set_other last bucket b (suc (length names)) 0 not ∙ is.last_is b (omega (arith, below, size))
            ∙ sym (last_elsewhere names t (length last) b (λ here. not (sym here ∙ sym at)))
      ]);
      before_is = λ k below. rw size (elim (cases_eq k (length names)) [
        | inl same ↦ rw same (get_or_push before (get_or last bucket 0) 0 (length names) is.long ∙ is.last_is bucket within
            ∙ sym (last_stays names t (length last) bucket (length names) (omega arith))
            ∙ ap (λ b. last_in (names ++ t ∷ []) (length last) b (length names)) (at ∙ ap (λ name. bucket_in name (length last)) (sym (get_or_push names t 0 (length names) refl))))
        | inr not ↦
            let inside : k < length names = omega (arith, below, more, not) in
            let old : get_or (names ++ t ∷ []) k 0 ≡ get_or names k 0 = get_or_append_left names (t ∷ []) 0 k inside in
            get_or_append_left before (get_or last bucket 0 ∷ []) 0 k (omega (arith, inside, is.long)) ∙ is.before_is k inside
            ∙ sym (last_stays names t (length last) (bucket_in (get_or names k 0) (length last)) k (omega (arith, inside)))
            ∙ ap (λ name. last_in (names ++ t ∷ []) (length last) (bucket_in name (length last)) k) (sym old)
      ]);
    }
