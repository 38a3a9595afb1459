-- The numbers of groups, and what they say of entries.
use Rattle.std.proofs.Common.{◌≡◌, ℕ, ◌<◌, ◌≤◌, Bool, true, not, suc, zero, cond, ltb, ◌&&◌, eqb, List, [], ◌∷◌, length, get_or, map, refl, sym, ap, ◌∙◌, arith, inl, inr, ◌⊎◌, Some, None, false}
use Rattle.std.specs.Prelude.{Option, position, is_some}
use Rattle.std.specs.List.{position_or_len}
use Rattle.std.proofs.lemmas.Bool.{eqb-true, ltb-false, cases_eq, cases_lt, eq-eqb, ne_eqb, false≢true}
use Rattle.std.proofs.lemmas.List.{length-map, get_or-map, ext_get_or}
use Rattle.std.proofs.lemmas.List.Sums.{position_or_len_is, prefix_len_passes}
use Rattle.std.proofs.lemmas.List.Quantifiers.{position-Some}
use Rattle.asset_names.specs.Arrows.{lists}
use Rattle.asset_names.specs.Steps.{Entry}
use Rattle.asset_names.specs.Groups.{same_group, dead}
use Rattle.asset_names.proofs.Common.{both_follow}
use Rattle.asset_names.proofs.ListLemmas.{listed_at, lists_at}
use Rattle.asset_laws.proofs.GroupLemmas.{group_refl, group_sym, group_trans, group_alike}
use Rattle.asset_history.specs.Named.{names_of}
use Rattle.asset_history.proofs.ShareLemmas.{alone}
use Rattle.asset_deletion.specs.Named.{Means, IsNumbered}
use Rattle.asset_deletion.specs.Numbered.{groups_before, group_numbers, group_count}
use Rattle.asset_deletion.specs.Grouping.{Grouping, first_labels, grouping_of, number_in, same_number, dead_in, dead_at}
use Rattle.asset_deletion.proofs.NumberLemmas.{before_more, number_at, numbers_long}

-- ---- labels that mean groups are the indices of first names
pub labels_first : (leads : ℕ → ℕ → Bool) (names labels : List ℕ) → Means leads names labels → labels ≡ first_labels leads names
unfolding first_labels
labels_first leads names labels means =
    ext_get_or 0 labels (map (λ n. position_or_len (λ m. leads m n) names) names) (means.long ∙ sym (length-map names (λ n. position_or_len (λ m. leads m n) names)))
    (λ k below.
    let inside : k < length names = omega (arith, means.long) in
    let l = get_or labels k 0 in
    let low = means.low k inside in
    let there : l < length names = omega arith in
    sym (get_or-map (λ n. position_or_len (λ m. leads m n) names) names k 0 0 inside
    ∙ position_or_len_is (λ m. leads m (get_or names k 0)) names l 0 (omega arith)
    (λ j before.
    let within : j < length names = omega arith in
    sym (means.same j k within inside) ∙ ne_eqb (get_or labels j 0) l (λ is. absurd (omega (arith, means.low j within))))
    (λ before. sym (means.same l k there inside) ∙ eq-eqb (get_or labels l 0) l (means.own k inside))))

-- ---- numbers of groups
numbers_same : (labels : List ℕ) (n i j : ℕ) → length labels ≡ n → ((k : ℕ) → k < n → get_or labels k 0 ≤ k) → ((k : ℕ) → k < n → get_or labels (get_or labels k 0) 0 ≡ get_or labels k 0) → i < n → j < n
    → eqb (get_or (group_numbers labels) i 0) (get_or (group_numbers labels) j 0) ≡ eqb (get_or labels i 0) (get_or labels j 0)
numbers_same labels n i j long low own is_i is_j =
    let a = get_or labels i 0 in
    let b = get_or labels j 0 in
    rw (number_at labels i (omega arith), number_at labels j (omega arith)) (elim (cases_eq a b) [
      | inl same ↦ eq-eqb (groups_before labels a) (groups_before labels b) (ap (groups_before labels) same) ∙ sym (eq-eqb a b same)
      | inr other ↦ ne_eqb (groups_before labels a) (groups_before labels b) (λ same. elim (cases_lt a b) [
        | inl less ↦ omega (arith, before_more labels b a less (own i is_i))
        | inr more ↦ omega (arith, before_more labels a b (omega arith) (own j is_j))
      ]) ∙ sym (ne_eqb a b other)
    ])

pub numbers_mean : (leads : ℕ → ℕ → Bool) (names labels : List ℕ) → Means leads names labels → IsNumbered leads names (group_numbers labels) (group_count labels)
unfolding group_count
numbers_mean leads names labels means = record {
  long = numbers_long labels ∙ means.long;
  below = λ k below. rw (number_at labels k (omega (arith, means.long))) (before_more labels (length labels) (get_or labels k 0) (omega (arith, means.long, means.low k below)) (means.own k below));
  same = λ i j is_i is_j. numbers_same labels (length names) i j means.long means.low means.own is_i is_j ∙ means.same i j is_i is_j;
  second = means.second;
}

-- ---- each history has labels

-- the first of the names that passes a test, up to one that does
first_where : (test : ℕ → Bool) (names : List ℕ) (k : ℕ) → k < length names → test (get_or names k 0) ≡ true → (l : ℕ) × (l ≤ k) × (test (get_or names l 0) ≡ true) × ((j : ℕ) → j < l → test (get_or names j 0) ≡ false)
first_where test [] k below h = absurd (omega (arith, below))
first_where test (n ∷ names) k below h = go k below h (test n) refl (λ m less there. first_where test names m less there) where
  Found : ℕ → Type 0
  Found m = (l : ℕ) × (l ≤ m) × (test (get_or (n ∷ names) l 0) ≡ true) × ((j : ℕ) → j < l → test (get_or (n ∷ names) j 0) ≡ false)

  go : (m : ℕ) → m < length (n ∷ names) → test (get_or (n ∷ names) m 0) ≡ true → (b : Bool) → test n ≡ b
      → ((o : ℕ) → o < length names → test (get_or names o 0) ≡ true → (l : ℕ) × (l ≤ o) × (test (get_or names l 0) ≡ true) × ((j : ℕ) → j < l → test (get_or names j 0) ≡ false)) → Found m
  go m less there true is rest = (0, omega arith, is, λ j none. absurd (omega (arith, none)))
  go zero less there false is rest = absurd (false≢true (sym is ∙ there))
  go (suc m) less there false is rest = let found = rest m (omega (arith, less)) there in (suc found.0, omega (arith, found.1), found.2, before found.0 found.3) where
    before : (l : ℕ) → ((j : ℕ) → j < l → test (get_or names j 0) ≡ false) → (j : ℕ) → j < suc l → test (get_or (n ∷ names) j 0) ≡ false
    before l none zero less = is
    before l none (suc j) less = none j (omega (arith, less))

module _ (entries : List Entry) where
  names : List ℕ
  names = names_of entries

  leads : ℕ → ℕ → Bool
  leads = same_group entries

  label : ℕ → ℕ
  label n = position_or_len (λ m. leads m n) names

  -- the label of the name at k
  found : (k : ℕ) → k < length names → (l : ℕ) × (label (get_or names k 0) ≡ l) × (l ≤ k) × (leads (get_or names l 0) (get_or names k 0) ≡ true) × ((j : ℕ) → j < l → leads (get_or names j 0) (get_or names k 0) ≡ false)
  unfolding label leads
  found k below =
      let n = get_or names k 0 in
      let first = first_where (λ m. same_group entries m n) names k below (group_refl entries n) in
      (first.0, position_or_len_is (λ m. same_group entries m n) names first.0 0 (omega (arith, first.1, below)) first.3 (λ less. first.2), first.1, first.2, first.3)

  -- names of one group have one label
  label_same : (n m : ℕ) → same_group entries n m ≡ true → label n ≡ label m
  unfolding label leads
  label_same n m same = ap (λ (test : ℕ → Bool). position_or_len test names) (λ i u. group_alike entries n m u same i)

  label_at : (k : ℕ) → k < length names → get_or (first_labels leads names) k 0 ≡ label (get_or names k 0)
  unfolding first_labels label
  label_at k below = get_or-map (λ n. position_or_len (λ m. leads m n) names) names k 0 0 below

  labels_mean : Means (same_group entries) (names_of entries) (first_labels (same_group entries) (names_of entries))
  unfolding names leads first_labels
  labels_mean = record {
    long = length-map names (λ n. position_or_len (λ m. leads m n) names);
    low = λ k below. let one = found k below in omega (arith, label_at k below, one.1, one.2);
    own = λ k below.
        let one = found k below in
        let inside : one.0 < length names = omega (arith, one.2, below) in
        ap (λ l. get_or (first_labels leads names) l 0) (label_at k below ∙ one.1) ∙ label_at one.0 inside ∙ label_same (get_or names one.0 0) (get_or names k 0) one.3 ∙ sym (label_at k below);
    same = λ i j is_i is_j.
        let a = get_or names i 0 in
        let b = get_or names j 0 in
        rw (label_at i is_i, label_at j is_j) (both_follow (eqb (label a) (label b)) (same_group entries a b)
        (λ h.
        let one = found i is_i in
        let other = found j is_j in
        let at : one.0 ≡ other.0 = sym one.1 ∙ eqb-true (label a) (label b) h ∙ other.1 in
        group_trans entries a (get_or names one.0 0) b (group_sym entries (get_or names one.0 0) a one.3) (ap (λ l. same_group entries (get_or names l 0) b) at ∙ other.3))
        (λ h. eq-eqb (label a) (label b) (label_same a b h)));
    first = λ n m none. both_follow (same_group entries n m) (eqb n m) (λ h. eq-eqb n m (sym (alone entries m n none (group_sym entries n m h)))) (λ h. ap (same_group entries n) (sym (eqb-true n m h)) ∙ group_refl entries n);
    second = λ n m none. both_follow (same_group entries n m) (eqb n m) (λ h. eq-eqb n m (alone entries n m none h)) (λ h. ap (same_group entries n) (sym (eqb-true n m h)) ∙ group_refl entries n);
  }

pub labels_exist : (entries : List Entry) → (labels : List ℕ) × Means (same_group entries) (names_of entries) labels
labels_exist entries = (first_labels (same_group entries) (names_of entries), labels_mean entries)

pub entries_numbered : (entries : List Entry) → IsNumbered (same_group entries) (names_of entries) (grouping_of entries).numbers (grouping_of entries).count
unfolding grouping_of
entries_numbered entries =
    let labels = labels_exist entries in
    rw (← labels_first (same_group entries) (names_of entries) labels.0 labels.1) (numbers_mean (same_group entries) (names_of entries) labels.0 labels.1)

-- ---- what the code keeps is the grouping
pub grouping_is : (entries : List Entry) (names numbers labels : List ℕ) (is_dead : List Bool) → names ≡ names_of entries → Means (same_group entries) names labels → numbers ≡ group_numbers labels → length is_dead ≡ group_count labels
    → ((k : ℕ) → k < length names → get_or is_dead (get_or numbers k 0) false ≡ dead entries (get_or names k 0))
    → (let g : Grouping = record { names = names; numbers = numbers; count = length is_dead; dead = map (λ g. get_or is_dead g false) numbers } in g ≡ grouping_of entries)
unfolding grouping_of
grouping_is entries names numbers labels is_dead named means numbered counted marked =
    let first : labels ≡ first_labels (same_group entries) (names_of entries) = labels_first (same_group entries) names labels means ∙ ap (first_labels (same_group entries)) named in
    let long : length numbers ≡ length names = ap length numbered ∙ (numbers_mean (same_group entries) names labels means).long in
    let numbers_are : numbers ≡ group_numbers (first_labels (same_group entries) (names_of entries)) = numbered ∙ ap group_numbers first in
    let count_is : length is_dead ≡ group_count (first_labels (same_group entries) (names_of entries)) = counted ∙ ap group_count first in
    let dead_are : map (λ g. get_or is_dead g false) numbers ≡ map (dead entries) (names_of entries) =
    ext_get_or false (map (λ g. get_or is_dead g false) numbers) (map (dead entries) names) (length-map numbers (λ g. get_or is_dead g false) ∙ long ∙ sym (length-map names (dead entries)))
    (λ k below.
    let inside : k < length numbers = omega (arith, length-map numbers (λ g. get_or is_dead g false)) in
    get_or-map (λ g. get_or is_dead g false) numbers k 0 false inside ∙ marked k (omega arith) ∙ sym (get_or-map (dead entries) names k 0 false (omega arith)))
    ∙ ap (map (dead entries)) named in
    λ i. record { names = named i; numbers = numbers_are i; count = count_is i; dead = dead_are i }

-- ---- what a grouping says of entries
-- where a name is listed
pub listed_where : (names : List ℕ) (t k : ℕ) → Some k ≡ position (eqb t) names → (k < length names) × (get_or names k 0 ≡ t)
listed_where names t k is = let at = position-Some (eqb t) names k 0 (sym is) in (at.0, sym (eqb-true t (get_or names k 0) at.1))

missing_from : (names : List ℕ) (n : ℕ) → position (eqb n) names ≡ None → length names ≤ position_or_len (eqb n) names
missing_from names n e = go (ltb (position_or_len (eqb n) names) (length names)) refl e where
  go : (b : Bool) → ltb (position_or_len (eqb n) names) (length names) ≡ b → cond b (Some (position_or_len (eqb n) names)) None ≡ None → length names ≤ position_or_len (eqb n) names
  go true f h = absurd cc
  go false f h = ltb-false _ _ f

missing : (names : List ℕ) (n i : ℕ) → position (eqb n) names ≡ None → i < length names → get_or names i 0 ≡ n → ⊥
missing names n i e below is =
    let passes : not (eqb n (get_or names i 0)) ≡ true = prefix_len_passes (λ m. not (eqb n m)) names i 0 (omega (arith, missing_from names n e)) in
    false≢true (sym (ap not (eq-eqb n (get_or names i 0) (sym is))) ∙ passes)

-- a name stands at an index and is listed, or neither
pub name_position : (names : List ℕ) (n : ℕ) → ((k : ℕ) × (position (eqb n) names ≡ Some k) × (k < length names) × (get_or names k 0 ≡ n) × (lists names n ≡ true)) ⊎ ((position (eqb n) names ≡ None) × (lists names n ≡ false))
name_position names n = go (position (eqb n) names) refl (lists names n) refl where
  go : (at : Option ℕ) → position (eqb n) names ≡ at → (b : Bool) → lists names n ≡ b
      → ((k : ℕ) × (position (eqb n) names ≡ Some k) × (k < length names) × (get_or names k 0 ≡ n) × (lists names n ≡ true)) ⊎ ((position (eqb n) names ≡ None) × (lists names n ≡ false))
  go (Some k) e b f = let there = listed_where names n k (sym e) in inl (k, e, there.0, there.1, lists_at names n k there.0 there.1)
  go None e false f = inr (e, f)
  go None e true f = let at = listed_at names n f in absurd (missing names n at.0 e at.1 at.2)

pub named_in_group : (entries : List Entry) (n : ℕ) → is_some (number_in (grouping_of entries) n) ≡ lists (names_of entries) n
unfolding number_in grouping_of
named_in_group entries n = elim (name_position (names_of entries) n) [
  | inl at ↦ rw (at.1, at.4) refl
  | inr none ↦ rw (none.0, none.1) refl
]

pub dead_in_group : (entries : List Entry) (n : ℕ) → dead_in (grouping_of entries) n ≡ (lists (names_of entries) n && dead entries n)
unfolding dead_in dead_at grouping_of
dead_in_group entries n = elim (name_position (names_of entries) n) [
  | inl at ↦ rw (at.1, at.4) (get_or-map (dead entries) (names_of entries) at.0 0 false at.2 ∙ ap (dead entries) at.3)
  | inr none ↦ rw (none.0, none.1) refl
]

pub same_in_group : (entries : List Entry) (n m : ℕ) → same_number (number_in (grouping_of entries) n) (number_in (grouping_of entries) m) ≡ ((lists (names_of entries) n && lists (names_of entries) m) && same_group entries n m)
unfolding number_in same_number grouping_of
same_in_group entries n m =
    let numbered = entries_numbered entries in
    elim (name_position (names_of entries) n) [
      | inl first ↦ elim (name_position (names_of entries) m) [
        | inl second ↦ rw (first.1, second.1, first.4, second.4) (numbered.same first.0 second.0 first.2 second.2 ∙ ap (λ k. same_group entries k (get_or (names_of entries) second.0 0)) first.3 ∙ ap (same_group entries n) second.3)
        | inr none ↦ rw (first.1, none.0, first.4, none.1) refl
      ]
      | inr none ↦ rw (none.0, none.1) refl
    ]
