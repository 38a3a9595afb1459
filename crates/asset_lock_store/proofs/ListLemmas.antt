-- Walks over the keys of a part.
use Rattle.std.proofs.Common.{◌≡◌, ℕ, ◌+◌, ◌<◌, length, take, get_or, Bool, true, false, cond, eqb, ◌&&◌, ◌||◌, List, [], ◌∷◌, Option, Some, None, refl, sym, ap, ◌∙◌, zero, suc, arith, inl, inr}
use Rattle.std.proofs.lemmas.Bool.{eqb-true, eq-eqb, cases_Bool, and_parts, or_left, or_right, true≢false, both_ways, false_from_ne_true}
use Rattle.std.proofs.lemmas.List.{take_more}
use Rattle.asset_chains.specs.Chained.{lists}
use Rattle.asset_chains.proofs.KeyLemmas.{lists-append}
use Rattle.asset_lists.specs.declared.part.Part.{Part}
use Rattle.asset_lists.specs.declared.part.Section.{Section}
use Rattle.asset_lists.specs.declared.part.Section.TheVariants.{Front, Middle, Back}
use Rattle.asset_lists.specs.Parted.{Parted, part_of, IsAt, AreKeys}
use Rattle.asset_lock_store.specs.declared.lock.Lock.{Lock}
use Rattle.asset_names.specs.OpSets.{OpSet}
use Rattle.asset_lock_store.specs.LockRules.{both_conflict, paused}
use Rattle.asset_lock_store.specs.Stored.{same_section, is_in, is_others}
use Rattle.asset_lock_store.proofs.WalkLemmas.{passed_lock}

-- a key is listed exactly if it stands at a position
pub at_lists : (keys : List ℕ) (q k : ℕ) → IsAt keys q k → lists keys k ≡ true
at_lists [] q k at = absurd (omega (arith, at.within))
at_lists (j ∷ keys) zero k at = or_left (eqb k j) (lists keys k) (eq-eqb k j (sym at.reads))
at_lists (j ∷ keys) (suc q) k at = or_right (eqb k j) (lists keys k) (at_lists keys q k (record { within = omega (arith, at.within); reads = at.reads }))

pub lists_at : (keys : List ℕ) (k : ℕ) → lists keys k ≡ true → (q : ℕ) × IsAt keys q k
lists_at [] k there = absurd (true≢false (sym there))
lists_at (j ∷ keys) k there = elim (cases_Bool (eqb k j)) [
  | inl here ↦ (0, record { within = omega arith; reads = sym (eqb-true k j here) })
  | inr apart ↦
      let rest = lists_at keys k (sym (ap (λ (b : Bool). b || lists keys k) apart) ∙ there) in
      (suc rest.0, record { within = omega (arith, rest.1.within); reads = rest.1.reads })
]

-- ---- the part that a key is in
same_own : (s : Section) → same_section s s ≡ true
same_own Front = refl
same_own Middle = refl
same_own Back = refl

section_one : (a b : Section) → same_section a b ≡ true → b ≡ a
section_one Front Front h = refl
section_one Middle Middle h = refl
section_one Back Back h = refl
section_one Front Middle h = absurd (true≢false (sym h))
section_one Front Back h = absurd (true≢false (sym h))
section_one Middle Front h = absurd (true≢false (sym h))
section_one Middle Back h = absurd (true≢false (sym h))
section_one Back Front h = absurd (true≢false (sym h))
section_one Back Middle h = absurd (true≢false (sym h))

pub in_own : (part : Part) → is_in part (Some part) ≡ true
in_own part = λ i. eq-eqb part.list part.list refl i && same_own part.section i

pub in_one : (part : Part) (o : Option Part) → is_in part o ≡ true → o ≡ Some part
in_one part None h = absurd (true≢false (sym h))
in_one part (Some other) h =
    let parts = and_parts (eqb other.list part.list) (same_section part.section other.section) h in
    λ i. Some (record { list = eqb-true other.list part.list parts.0 i; section = section_one part.section other.section parts.1 i })

-- the keys of a part are those whose part it is
pub lists_in : (table : Parted) (part : Part) (keys : List ℕ) → AreKeys table part keys → (k : ℕ) → lists keys k ≡ is_in part (part_of table k)
lists_in table part keys are k = elim (cases_Bool (lists keys k)) [
  | inl there ↦ let at = lists_at keys k there in there ∙ sym (ap (is_in part) (are.there at.0 k at.1) ∙ in_own part)
  | inr absent ↦ absent ∙ sym (false_from_ne_true _ (λ h. let at = are.all k (in_one part (part_of table k) h) in both_ways (lists keys k) absent (at_lists keys at.0 k at.1)))
]

-- ---- locks that are suspended
pub paused_twice : (ops : OpSet) (lock : Lock) → paused ops (paused ops lock) ≡ paused ops lock
unfolding paused
paused_twice ops lock = go (both_conflict lock.ops ops) refl where
  go : (b : Bool) → both_conflict lock.ops ops ≡ b → paused ops (cond b (record lock { granted = false }) lock) ≡ cond b (record lock { granted = false }) lock
  go true e = ap (λ (c : Bool). cond c (record lock { granted = false }) (record lock { granted = false })) e
  go false e = ap (λ (c : Bool). cond c (record lock { granted = false }) lock) e

pub twice_passed : (ops : OpSet) (a b : Bool) (lock : Lock) → passed_lock ops b (passed_lock ops a lock) ≡ passed_lock ops (a || b) lock
twice_passed ops true true lock = paused_twice ops lock
twice_passed ops true false lock = refl
twice_passed ops false b lock = refl

-- ---- past one more key
flags_passed : (a o e : Bool) → (e ≡ true → o ≡ true) → ((a && o) || e) ≡ ((a || (e || false)) && o)
flags_passed true true true h = refl
flags_passed true true false h = refl
flags_passed true false true h = absurd (true≢false (sym (h refl)))
flags_passed true false false h = refl
flags_passed false true true h = refl
flags_passed false true false h = refl
flags_passed false false true h = absurd (true≢false (sym (h refl)))
flags_passed false false false h = refl

flags_left : (a o e : Bool) → (e ≡ true → o ≡ false) → (a && o) ≡ ((a || (e || false)) && o)
flags_left true o e h = refl
flags_left false true true h = absurd (true≢false (h refl))
flags_left false true false h = refl
flags_left false false true h = refl
flags_left false false false h = refl

module _ (ops : OpSet) (keys : List ℕ) (i c : ℕ) (home : ℕ → Option ℕ) (before now : ℕ → Lock) (within : i < length keys)
    (passed : (k : ℕ) → now k ≡ passed_lock ops (lists (take i keys) k && is_others c (home k)) (before k)) where
  listed_more : (k : ℕ) → lists (take (i + 1) keys) k ≡ (lists (take i keys) k || (eqb k (get_or keys i 0) || false))
  listed_more k = ap (λ (l : List ℕ). lists l k) (take_more keys i 0 within) ∙ lists-append (take i keys) (get_or keys i 0 ∷ []) k

  here : (k : ℕ) → eqb k (get_or keys i 0) ≡ true → is_others c (home k) ≡ is_others c (home (get_or keys i 0))
  here k is = ap (λ (n : ℕ). is_others c (home n)) (eqb-true k (get_or keys i 0) is)

  -- it is another's, and suspended if it conflicts
  pub passed_more : is_others c (home (get_or keys i 0)) ≡ true → (later : ℕ → Lock) → ((k : ℕ) → later k ≡ cond (eqb k (get_or keys i 0)) (paused ops (now k)) (now k))
      → (k : ℕ) → later k ≡ passed_lock ops (lists (take (i + 1) keys) k && is_others c (home k)) (before k)
  passed_more other later change k =
      change k
      ∙ ap (passed_lock ops (eqb k (get_or keys i 0))) (passed k)
      ∙ twice_passed ops (lists (take i keys) k && is_others c (home k)) (eqb k (get_or keys i 0)) (before k)
      ∙ ap (λ (b : Bool). passed_lock ops b (before k)) (flags_passed (lists (take i keys) k) (is_others c (home k)) (eqb k (get_or keys i 0)) (λ is. here k is ∙ other) ∙ ap (λ (b : Bool). b && is_others c (home k)) (sym (listed_more k)))

  -- or it is that of the seat
  pub passed_own : is_others c (home (get_or keys i 0)) ≡ false → (k : ℕ) → now k ≡ passed_lock ops (lists (take (i + 1) keys) k && is_others c (home k)) (before k)
  passed_own own k =
      passed k
      ∙ ap (λ (b : Bool). passed_lock ops b (before k)) (flags_left (lists (take i keys) k) (is_others c (home k)) (eqb k (get_or keys i 0)) (λ is. here k is ∙ own) ∙ ap (λ (b : Bool). b && is_others c (home k)) (sym (listed_more k)))
