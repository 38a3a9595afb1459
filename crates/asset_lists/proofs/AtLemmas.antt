-- Keys at positions of a list.
use Rattle.std.proofs.Common.{◌≡◌, ℕ, ◌+◌, ◌<◌, ◌≤◌, eqb, cond, List, [], ◌∷◌, ◌++◌, length, get_or, take, drop, refl, sym, ap, subst, ◌∙◌, arith, inl, inr, ◌⊎◌}
use Rattle.std.proofs.lemmas.Bool.{eq-eqb, ne_eqb, cases_eq}
use Rattle.std.proofs.lemmas.List.{length-append, length-take-le, length-drop, get_or-take, get_or-drop, drop_all}
use Rattle.std.proofs.Math.ListN.{get_or-append}
use Rattle.std.proofs.Math.Seq.{get_or-append_seam, take-append_seam}
use Rattle.std.specs.List.{refill}
use Rattle.asset_lists.specs.Parted.{IsAt}
use Rattle.asset_lists.specs.Placed.{swapped, IsSwapped}

-- one key is at a position
pub at_one : (keys : List ℕ) (q j k : ℕ) → IsAt keys q j → IsAt keys q k → j ≡ k
at_one keys q j k first second = sym first.reads ∙ second.reads

-- a key at the end of a list
pub at_front : (keys : List ℕ) (q k key : ℕ) → IsAt keys q k → IsAt (keys ++ key ∷ []) q k
at_front keys q k key at = record { within = omega (arith, at.within, length-append keys (key ∷ [])); reads = get_or-append keys (key ∷ []) 0 q at.within ∙ at.reads }

pub at_end : (keys : List ℕ) (key : ℕ) → IsAt (keys ++ key ∷ []) (length keys) key
at_end keys key = record { within = omega (arith, length-append keys (key ∷ [])); reads = get_or-append_seam keys key [] 0 }

pub at_either : (keys : List ℕ) (q k key : ℕ) → IsAt (keys ++ key ∷ []) q k → IsAt keys q k ⊎ ((q ≡ length keys) × (k ≡ key))
at_either keys q k key at = elim (cases_eq q (length keys)) [
  | inl same ↦ inr (same, sym at.reads ∙ ap (λ n. get_or (keys ++ key ∷ []) n 0) same ∙ get_or-append_seam keys key [] 0)
  | inr apart ↦
      let within : q < length keys = omega (arith, at.within, length-append keys (key ∷ []), apart) in
      inl (record { within = within; reads = sym (get_or-append keys (key ∷ []) 0 q within) ∙ at.reads })
]

-- the first keys of a list
pub at_take : (n : ℕ) (keys : List ℕ) (q k : ℕ) → n ≤ length keys → IsAt (take n keys) q k → (IsAt keys q k) × (q < n)
at_take n keys q k fits at =
    let within : q < n = omega (arith, at.within, length-take-le n keys fits) in
    (record { within = omega (arith, within, fits); reads = sym (get_or-take n keys q 0 within) ∙ at.reads }, within)

pub take_at : (n : ℕ) (keys : List ℕ) (q k : ℕ) → n ≤ length keys → IsAt keys q k → q < n → IsAt (take n keys) q k
take_at n keys q k fits at within = record { within = omega (arith, within, length-take-le n keys fits); reads = get_or-take n keys q 0 within ∙ at.reads }

-- and the others
pub at_drop : (n : ℕ) (keys : List ℕ) (q k : ℕ) → IsAt (drop n keys) q k → IsAt keys (n + q) k
at_drop n keys q k at = record { within = omega (arith, at.within, length-drop n keys); reads = sym (get_or-drop n keys q 0) ∙ at.reads }

pub drop_at : (n : ℕ) (keys : List ℕ) (q j k : ℕ) → IsAt keys j k → j ≡ n + q → IsAt (drop n keys) q k
drop_at n keys q j k at is = record { within = omega (arith, at.within, is, length-drop n keys); reads = get_or-drop n keys q 0 ∙ ap (λ (m : ℕ). get_or keys m 0) (sym is) ∙ at.reads }

-- ---- positions that are swapped
pub swapped_first : (p q : ℕ) → swapped p q p ≡ q
swapped_first p q = ap (λ b. cond b q (cond (eqb p q) p p)) (eq-eqb p p refl)

pub swapped_second : (p q : ℕ) → swapped p q q ≡ p
swapped_second p q = elim (cases_eq q p) [
  | inl same ↦ ap (λ b. cond b q (cond (eqb q q) p q)) (eq-eqb q p same) ∙ same
  | inr apart ↦ ap (λ b. cond b q (cond (eqb q q) p q)) (ne_eqb q p apart) ∙ ap (λ b. cond b p q) (eq-eqb q q refl)
]

pub swapped_other : (p q i : ℕ) → (i ≡ p → ⊥) → (i ≡ q → ⊥) → swapped p q i ≡ i
swapped_other p q i first second = ap (λ b. cond b q (cond (eqb i q) p i)) (ne_eqb i p first) ∙ ap (λ b. cond b p i) (ne_eqb i q second)

pub swapped_twice : (p q i : ℕ) → swapped p q (swapped p q i) ≡ i
swapped_twice p q i = elim (cases_eq i p) [
  | inl same ↦ ap (swapped p q) (ap (swapped p q) same ∙ swapped_first p q) ∙ swapped_second p q ∙ sym same
  | inr first ↦ elim (cases_eq i q) [
    | inl same ↦ ap (swapped p q) (ap (swapped p q) same ∙ swapped_second p q) ∙ swapped_first p q ∙ sym same
    | inr second ↦ ap (swapped p q) (swapped_other p q i first second) ∙ swapped_other p q i first second
  ]
]

pub swapped_same : (p q i : ℕ) → p ≡ q → swapped p q i ≡ i
swapped_same p q i one = elim (cases_eq i p) [
  | inl same ↦ ap (swapped p q) same ∙ swapped_first p q ∙ sym one ∙ sym same
  | inr apart ↦ swapped_other p q i apart (λ same. apart (same ∙ sym one))
]

-- a list of which no keys are swapped
pub unswapped : (p q : ℕ) (keys : List ℕ) → p ≡ q → IsSwapped p q keys keys
unswapped p q keys one = record {
  same = refl;
  moved = λ i k at. subst (λ (n : ℕ). IsAt keys n k) (sym (swapped_same p q i one)) at;
  was = λ i k at. subst (λ (n : ℕ). IsAt keys n k) (sym (swapped_same p q i one)) at;
}

-- a slice that is written back is the whole list
pub refilled : (keys new : List ℕ) → length new ≡ length keys → refill (length keys) keys new ≡ new
refilled keys new same = ap (λ n. take n (new ++ drop (length new) keys)) (sym same) ∙ ap (λ l. take (length new) (new ++ l)) (none new keys same) ∙ all new where
  none : (new keys : List ℕ) → length new ≡ length keys → drop (length new) keys ≡ []
  none new keys same = drop_all (length new) keys (omega (arith, same))

  all : (new : List ℕ) → take (length new) (new ++ []) ≡ new
  all new = take-append_seam new []
