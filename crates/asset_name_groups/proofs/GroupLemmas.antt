-- What the groups show: their names, labels and flags.
use Rattle.std.proofs.Common.{◌≡◌, ℕ, suc, ◌+◌, ◌<◌, ◌≤◌, ◌^◌, ◌||◌, ◌++◌, ◌∷◌, [], min, cond, eqb, Bool, true, false, List, length, get_or, map, Option, Some, None, refl, sym, ap, ◌∙◌, arith, inl, inr, true≢false}
use Rattle.std.specs.Prelude.{IfNone}
use Rattle.std.specs.List.{range_with_len}
use Rattle.std.proofs.lemmas.Bool.{or_left, cases_eq, eq-eqb, ne_eqb, cond-true, cond-false}
use Rattle.std.proofs.lemmas.List.{ext_get_or, map-id, get_or_append_left, get_or_push, length_push}
use Rattle.std.proofs.lemmas.List.Folds.{list_any_at}
use Rattle.std.proofs.lemmas.List.FromFn.{length-map-range_with_len, get_or-map-range_with_len}
use Rattle.asset_name_groups.specs.declared.links.Link.{Link}
use Rattle.asset_name_groups.specs.declared.links.Link.TheVariants.{Root}
use Rattle.asset_name_groups.specs.declared.trees.Tree.{Tree}
use Rattle.asset_name_groups.specs.Labelled.{merged}
use Rattle.asset_name_groups.specs.NamesInGroups.{has_name, flag_at, merged_flags, with_join, flags_with, with_flag, IsConsistent}
use Rattle.asset_name_groups.specs.Trees.{root_in, label_in, labels_in, flags_in, IsForest}
use Rattle.asset_name_groups.specs.Roots.{IsTree}
use Rattle.asset_name_groups.specs.Index.{last_in}
use Rattle.asset_name_groups.specs.Valid.{IsValid}
use Rattle.asset_name_groups.proofs.LabelLemmas.{merged_is, not_both, labels_long, flags_long, label_at, flag_is, root_is_own, label_is_its, flag_is_its, has_tree, first_within, first_root, root_by_label}

-- ---- names
pub has_none : (names : List ℕ) (t : ℕ) → ((k : ℕ) → k < length names → get_or names k 0 ≡ t → ⊥) → has_name names t ≡ false
unfolding has_name
has_none [] t absent = refl
has_none (name ∷ names) t absent =
    let here : eqb name t ≡ false = ne_eqb name t (absent 0 (omega arith)) in
    let rest = has_none names t (λ k below. absent (suc k) (omega (arith, below))) in
    λ i. here i || rest i

pub has_at : (names : List ℕ) (t k : ℕ) → k < length names → get_or names k 0 ≡ t → has_name names t ≡ true
unfolding has_name
has_at names t k below is = list_any_at (λ name. eqb name t) names k 0 below (eq-eqb (get_or names k 0) t is)

pub none_weaker : {X P Q : Type 0} (o : Option X) → (P → Q) → IfNone o P → IfNone o Q
none_weaker None f p = f p
none_weaker (Some x) f p = tt

-- ---- one group already
merged_one : (labels : List ℕ) (a : ℕ) → merged labels a a ≡ labels
merged_one labels a = sym (merged_is labels a a) ∙ (λ i. map (λ label. same label i) labels) ∙ map-id labels where
  same : (label : ℕ) → cond (eqb label a || eqb label a) (min a a) label ≡ label
  same label = elim (cases_eq label a) [
    | inl at ↦ cond-true (eqb label a || eqb label a) (min a a) label (or_left _ _ (eq-eqb label a at)) ∙ omega (arith, at)
    | inr not ↦ cond-false (eqb label a || eqb label a) (min a a) label (λ i. ne_eqb label a not i || ne_eqb label a not i)
  ]

either_one : (x : Bool) → (x || x) ≡ x
either_one true = refl
either_one false = refl

flags_one : (links : List Link) → IsForest links → (group : Tree) → IsTree links group → merged_flags (labels_in links) (flags_in links) group.label group.label ≡ flags_in links
unfolding merged_flags flag_at
flags_one links forest group is =
    let labels = labels_in links in
    let flags = flags_in links in
    let a = group.label in
    let f : ℕ → Bool = λ k. cond (eqb (get_or labels k 0) a || eqb (get_or labels k 0) a) (flag_at flags a || flag_at flags a) (flag_at flags k) in
    ext_get_or false (map f (range_with_len 0 (length labels))) flags (length-map-range_with_len f 0 (length labels) ∙ labels_long links ∙ sym (flags_long links))
    (λ k below.
    let within : k < length labels = omega (arith, below, length-map-range_with_len f 0 (length labels)) in
    get_or-map-range_with_len f 0 (length labels) k k false within (omega arith)
    ∙ same k (omega (arith, within, labels_long links))) where
      same : (k : ℕ) → k < length links → cond (eqb (get_or (labels_in links) k 0) group.label || eqb (get_or (labels_in links) k 0) group.label) (flag_at (flags_in links) group.label || flag_at (flags_in links) group.label) (flag_at (flags_in links) k) ≡ get_or (flags_in links) k false
      same k within = elim (cases_eq (get_or (labels_in links) k 0) group.label) [
        | inl at ↦
            cond-true (eqb (get_or (labels_in links) k 0) group.label || eqb (get_or (labels_in links) k 0) group.label) _ _ (or_left _ _ (eq-eqb _ _ at))
            ∙ either_one (flag_at (flags_in links) group.label)
            ∙ flag_is links group.label (first_within links forest group is) ∙ flag_is_its links group group.label is (first_root links forest group is)
            ∙ sym (flag_is links k within ∙ flag_is_its links group k is (root_by_label links forest group is k within (sym (label_at links k within) ∙ at)))
        | inr not ↦ cond-false (eqb (get_or (labels_in links) k 0) group.label || eqb (get_or (labels_in links) k 0) group.label) _ _ (λ i. ne_eqb _ _ not i || ne_eqb _ _ not i)
      ]

-- two groups with one root are one
same_label : (links : List Link) (a b : Tree) → IsTree links a → IsTree links b → a.root ≡ b.root → a.label ≡ b.label
same_label links a b is too same = sym (label_is_its links a a.root is (root_is_own links a is)) ∙ label_is_its links b a.root too (root_is_own links a is ∙ same)

-- ---- what is shown
pub label_of_tree : (links : List Link) (group : Tree) (k : ℕ) → IsTree links group → group.root ≡ root_in links k → k < length links → get_or (labels_in links) k 0 ≡ group.label
label_of_tree links group k is root within = label_at links k within ∙ label_is_its links group k is (sym root)

pub flag_of_tree : (links : List Link) (group : Tree) (k : ℕ) → IsTree links group → group.root ≡ root_in links k → k < length links → flag_at (flags_in links) k ≡ group.is_flagged
flag_of_tree links group k is root within = flag_is links k within ∙ flag_is_its links group k is (sym root)

pub joined_shown : (names : List ℕ) (room : ℕ) (links later : List Link) (a b : Tree) (i j : ℕ) → get_or (labels_in links) i 0 ≡ a.label → get_or (labels_in links) j 0 ≡ b.label
    → labels_in later ≡ merged (labels_in links) a.label b.label → flags_in later ≡ merged_flags (labels_in links) (flags_in links) a.label b.label
    → record { names = names; labels = labels_in later; flags = flags_in later; room = room } ≡ with_join (record { names = names; labels = labels_in links; flags = flags_in links; room = room }) i j
unfolding with_join
joined_shown names room links later a b i j first second labels flags =
    let all_labels = labels ∙ (λ n. merged (labels_in links) (sym first n) (sym second n)) in
    let all_flags = flags ∙ (λ n. merged_flags (labels_in links) (flags_in links) (sym first n) (sym second n)) in
    λ n. record { names = names; labels = all_labels n; flags = all_flags n; room = room }

pub joined_already : (names : List ℕ) (room : ℕ) (links : List Link) → IsForest links → (a b : Tree) (i j : ℕ) → IsTree links a → IsTree links b → a.root ≡ b.root → get_or (labels_in links) i 0 ≡ a.label → get_or (labels_in links) j 0 ≡ b.label
    → record { names = names; labels = labels_in links; flags = flags_in links; room = room } ≡ with_join (record { names = names; labels = labels_in links; flags = flags_in links; room = room }) i j
joined_already names room links forest a b i j is too same first second =
    joined_shown names room links links a a i j first (second ∙ sym (same_label links a b is too same)) (sym (merged_one (labels_in links) a.label)) (sym (flags_one links forest a is))

pub flagged_shown : (names : List ℕ) (room : ℕ) (links later : List Link) (group : Tree) (k : ℕ) → get_or (labels_in links) k 0 ≡ group.label
    → labels_in later ≡ labels_in links → flags_in later ≡ flags_with (labels_in links) (flags_in links) group.label
    → record { names = names; labels = labels_in later; flags = flags_in later; room = room } ≡ with_flag (record { names = names; labels = labels_in links; flags = flags_in links; room = room }) k
unfolding with_flag
flagged_shown names room links later group k first labels flags =
    let all_flags = flags ∙ (λ n. flags_with (labels_in links) (flags_in links) (sym first n)) in
    λ n. record { names = names; labels = labels n; flags = all_flags n; room = room }

-- ---- one more name
pub still_different : (names : List ℕ) (t : ℕ) → ((i j : ℕ) → i < length names → j < length names → get_or names i 0 ≡ get_or names j 0 → i ≡ j) → has_name names t ≡ false
    → (i j : ℕ) → i < length (names ++ t ∷ []) → j < length (names ++ t ∷ []) → get_or (names ++ t ∷ []) i 0 ≡ get_or (names ++ t ∷ []) j 0 → i ≡ j
still_different names t different new i j first second same = elim (cases_eq i (length names)) [
  | inl at ↦ elim (cases_eq j (length names)) [
    | inl too ↦ at ∙ sym too
    | inr not ↦ absurd (unlike j (omega (arith, second, length_push names t, not)) (sym (sym (here i at) ∙ same)))
  ]
  | inr not ↦ elim (cases_eq j (length names)) [
    | inl at ↦ absurd (unlike i (omega (arith, first, length_push names t, not)) (same ∙ here j at))
    | inr too ↦
        let one : i < length names = omega (arith, first, length_push names t, not) in
        let other : j < length names = omega (arith, second, length_push names t, too) in
        different i j one other (sym (get_or_append_left names (t ∷ []) 0 i one) ∙ same ∙ get_or_append_left names (t ∷ []) 0 j other)
  ]
] where
  here : (k : ℕ) → k ≡ length names → get_or (names ++ t ∷ []) k 0 ≡ t
  here k at = get_or_push names t 0 k (sym at)

  unlike : (k : ℕ) → k < length names → get_or (names ++ t ∷ []) k 0 ≡ t → ⊥
  unlike k below is = true≢false (sym (has_at names t k below (sym (get_or_append_left names (t ∷ []) 0 k below) ∙ is)) ∙ new)

-- ---- what is true of all groups
pub sound : (names before last : List ℕ) (links : List Link) (room a b c : ℕ) → IsValid names before last links room a b c → IsConsistent (record { names = names; labels = labels_in links; flags = flags_in links; room = room })
sound names before last links room a b c valid = record {
  different = valid.different;
  each_has_label = labels_long links ∙ valid.long;
  each_has_flag = flags_long links ∙ valid.long;
  within = valid.within;
  small = valid.small;
  least = λ k below. let here : k < length links = omega (arith, below, valid.long) in omega (arith, label_at links k here, valid.forest.least k here);
  own = λ k below.
      let here : k < length links = omega (arith, below, valid.long) in
      let own = has_tree links valid.forest.upward k here in
      let label : get_or (labels_in links) k 0 ≡ own.group.label = label_at links k here ∙ label_is_its links own.group k own.is own.root in
      ap (λ n. get_or (labels_in links) n 0) label ∙ label_at links own.group.label (first_within links valid.forest own.group own.is)
      ∙ label_is_its links own.group own.group.label own.is (first_root links valid.forest own.group own.is) ∙ sym label;
  alike = λ i j first second same.
      let one : i < length links = omega (arith, first, valid.long) in
      let other : j < length links = omega (arith, second, valid.long) in
      let own = has_tree links valid.forest.upward i one in
      let label : label_in links i ≡ own.group.label = label_is_its links own.group i own.is own.root in
      let there : label_in links j ≡ own.group.label = sym (label_at links j other) ∙ sym same ∙ label_at links i one ∙ label in
      flag_is links i one ∙ flag_is_its links own.group i own.is own.root
      ∙ sym (flag_is links j other ∙ flag_is_its links own.group j own.is (root_by_label links valid.forest own.group own.is j other there));
}

-- ---- no names
pub none_valid : (last : List ℕ) (room a b c : ℕ) → 0 < length last → ((k : ℕ) → k < length last → get_or last k 0 ≡ 0) → room + 1 < 2 ^ 32 → room ≤ a → room ≤ b → room ≤ c → IsValid [] [] last [] room a b c
unfolding last_in
none_valid last room a b c some empty small for_names for_before for_links = record {
  indexed = record { has_buckets = some; long = refl; last_is = λ bucket below. empty bucket below; before_is = λ k below. absurd (omega (arith, below)) };
  different = λ i j first second same. absurd (omega (arith, first));
  forest = record {
    upward = λ k rank above below. absurd (not_both (Root 0 false 0) rank above 0 0 false below refl);
    own = λ k rank first m below root. absurd (omega (arith, below));
    least = λ k below. absurd (omega (arith, below));
  };
  long = refl;
  within = omega arith;
  small = small;
  for_names = for_names;
  for_before = for_before;
  for_links = for_links;
}
