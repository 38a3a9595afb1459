-- What the groups of a history are, in the words of a reader.
use Rattle.std.proofs.Common.{◌≡◌, ℕ, ◌<◌, Bool, true, false, cond, eqb, List, [], ◌∷◌, ◌++◌, length, get_or, refl, sym, ap, subst, ◌∙◌, arith, suc, zero, inl, inr}
use Rattle.std.proofs.lemmas.Bool.{cases_eq, eqb-true}
use Rattle.std.proofs.lemmas.List.{get_or-map, length-map}
use Rattle.asset_names.specs.Arrows.{lists, with_name}
use Rattle.asset_names.specs.Steps.{Entry}
use Rattle.asset_names.specs.Groups.{actor, partner, same_group, dead}
use Rattle.asset_names.specs.Orderly.{Distinct}
use Rattle.asset_names.proofs.ListLemmas.{distinct_pushed}
use Rattle.asset_deletion.specs.Numbered.{groups_before, group_numbers, group_count}
use Rattle.asset_deletion.proofs.NumberLemmas.{before_more, number_at}
use Rattle.asset_history.specs.Named.{names_of}
use Rattle.asset_deletion.specs.Named.{Means}
use Rattle.asset_deletion.specs.Grouping.{first_labels, grouping_of}
use Rattle.asset_deletion.specs.Grouped.{IsFirstOfGroup, AreGroups}
use Rattle.asset_history.proofs.NameLemmas.{all_acted}
use Rattle.asset_deletion.proofs.GroupingLemmas.{labels_first, labels_exist, entries_numbered}

-- ---- the names
names_once : (names : List ℕ) (n : ℕ) → Distinct names → Distinct (with_name names n)
unfolding with_name
names_once names n distinct = go (lists names n) refl where
  go : (b : Bool) → lists names n ≡ b → Distinct (cond b names (names ++ n ∷ []))
  go true e = distinct
  go false e = distinct_pushed names n distinct e

all_once : (entries : List Entry) → Distinct (names_of entries)
unfolding names_of
all_once [] = tt
all_once (entry ∷ older) = names_once _ (partner entry.0).0 (names_once _ (actor entry.0).0 (all_once older))

-- ---- the numbers
-- each number below the count is that of a name that is its own label
reached : (labels : List ℕ) (g n : ℕ) → g < groups_before labels n → (k : ℕ) × (k < n) × (get_or labels k 0 ≡ k) × (groups_before labels k ≡ g)
unfolding groups_before
reached labels g zero below = absurd (omega arith)
reached labels g (suc n) below = go (eqb (get_or labels n 0) n) refl below (reached labels g n) where
  Found : ℕ → Type 0
  Found m = (k : ℕ) × (k < m) × (get_or labels k 0 ≡ k) × (groups_before labels k ≡ g)

  wider : Found n → Found (suc n)
  wider found = (found.0, omega (arith, found.1), found.2, found.3)

  go : (b : Bool) → eqb (get_or labels n 0) n ≡ b → g < cond b (suc (groups_before labels n)) (groups_before labels n) → (g < groups_before labels n → Found n) → Found (suc n)
  go false e less before = wider (before less)
  go true e less before = elim (cases_eq (groups_before labels n) g) [
    | inl same ↦ (n, omega arith, eqb-true _ _ e, same)
    | inr other ↦ wider (before (omega arith))
  ]

-- the first name of a group is its own label
first_own : (leads : ℕ → ℕ → Bool) (names labels : List ℕ) (k : ℕ) → Means leads names labels → k < length names → IsFirstOfGroup (group_numbers labels) k → get_or labels k 0 ≡ k
first_own leads names labels k means below first = elim (cases_eq (get_or labels k 0) k) [
  | inl same ↦ same
  | inr other ↦
      let m = get_or labels k 0 in
      let less : m < k = omega (arith, means.low k below) in
      absurd (first m less (number_at labels m (omega (arith, means.long)) ∙ ap (groups_before labels) (means.own k below) ∙ sym (number_at labels k (omega (arith, means.long)))))
]

pub groups_are : (entries : List Entry) → AreGroups entries (grouping_of entries)
unfolding grouping_of group_count
groups_are entries = record {
  acted_on = all_acted entries;
  once = all_once entries;
  long = (entries_numbered entries).long;
  below = (entries_numbered entries).below;
  same = (entries_numbered entries).same;
  occurs = subst (λ (ls : List ℕ). (g : ℕ) → g < groups_before ls (length ls) → (k : ℕ) × (k < length (names_of entries)) × (get_or (group_numbers ls) k 0 ≡ g)) is occurs;
  rising = subst (λ (ls : List ℕ). (i j : ℕ) → i < j → j < length (names_of entries) → IsFirstOfGroup (group_numbers ls) i → IsFirstOfGroup (group_numbers ls) j → get_or (group_numbers ls) i 0 < get_or (group_numbers ls) j 0) is rising;
  marks = length-map (names_of entries) (dead entries);
  marked = λ k below. get_or-map (dead entries) (names_of entries) k 0 false below;
} where
  labels : List ℕ
  labels = (labels_exist entries).0

  means : Means (same_group entries) (names_of entries) labels
  means = (labels_exist entries).1

  is : labels ≡ first_labels (same_group entries) (names_of entries)
  is = labels_first (same_group entries) (names_of entries) labels means

  occurs : (g : ℕ) → g < groups_before labels (length labels) → (k : ℕ) × (k < length (names_of entries)) × (get_or (group_numbers labels) k 0 ≡ g)
  occurs g below =
      let found = reached labels g (length labels) below in
      (found.0, omega (arith, found.1, means.long), number_at labels found.0 found.1 ∙ ap (groups_before labels) found.2 ∙ found.3)

  rising : (i j : ℕ) → i < j → j < length (names_of entries) → IsFirstOfGroup (group_numbers labels) i → IsFirstOfGroup (group_numbers labels) j → get_or (group_numbers labels) i 0 < get_or (group_numbers labels) j 0
  rising i j less below first second =
      let own = first_own (same_group entries) (names_of entries) labels i means (omega arith) first in
      let other = first_own (same_group entries) (names_of entries) labels j means below second in
      rw (number_at labels i (omega (arith, means.long)), number_at labels j (omega (arith, means.long)), own, other) (before_more labels j i less own)
