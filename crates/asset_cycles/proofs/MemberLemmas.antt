-- The nodes by their labels.
use Rattle.std.proofs.Common.{◌≡◌, ℕ, zero, suc, ◌+◌, ◌<◌, ◌≤◌, Bool, true, false, cond, eqb, List, [], ◌∷◌, ◌++◌, length, get_or, map, Option, Some, None, refl, sym, ap, subst, ◌∙◌, arith, inl, inr}
use Rattle.std.specs.Prelude.{unwrap_or}
use Rattle.std.specs.Option.{option_eq}
use Rattle.std.specs.List.{filter, range_with_len, Contains}
use Rattle.std.proofs.lemmas.Bool.{cases_lt, ne_eqb, eqb-true, eq-eqb, false≢true, false_from_ne_true}
use Rattle.std.proofs.lemmas.List.{get_or-map, length-map, get_or_past, get_or_default, map-id}
use Rattle.std.proofs.lemmas.List.FromFn.{get_or-map-range_with_len, filter_of_map_range_with_len_more}
use Rattle.asset_names.specs.Arrows.{lists}
use Rattle.asset_names.proofs.ListLemmas.{listed_at}
use Rattle.asset_buckets.specs.Bucketed.{indices_below, indices_of, buckets_of}
use Rattle.asset_cycles.specs.Members.{is_label, members_of, own_labels, label_numbers}
use Rattle.asset_cycles.proofs.LeavingLemmas.{kept_at, keeps, bucket_count}

-- ---- filters of numbers
-- two tests that agree on the numbers keep the same ones
agree : (test other : ℕ → Bool) (from n : ℕ) → ((k : ℕ) → from ≤ k → k < from + n → test k ≡ other k) → filter test (range_with_len from n) ≡ filter other (range_with_len from n)
agree test other from zero same = refl
agree test other from (suc n) same =
    let rest = agree test other (from + 1) n (λ k low high. same k (omega (arith, low)) (omega (arith, high))) in
    (λ m. cond (same from (omega arith) (omega arith) m) (from ∷ rest m) (rest m))

none_kept : (test : ℕ → Bool) (from n : ℕ) → ((k : ℕ) → test k ≡ false) → filter test (range_with_len from n) ≡ []
none_kept test from zero fails = refl
none_kept test from (suc n) fails = ap (λ b. cond b (from ∷ filter test (range_with_len (from + 1) n)) (filter test (range_with_len (from + 1) n))) (fails from) ∙ none_kept test (from + 1) n fails

-- a label that is there
label_is : (found : Option ℕ) (label : ℕ) → is_label found label ≡ true → found ≡ Some label
label_is None label h = absurd (false≢true h)
label_is (Some other) label h = ap Some (eqb-true other label h)

is_itself : (found : Option ℕ) (label : ℕ) → found ≡ Some label → is_label found label ≡ true
is_itself found label is = ap (λ o. is_label o label) is ∙ eq-eqb label label refl

-- ---- the nodes of a bucket
number_is : (found : Option ℕ) (count label : ℕ) → label < count → eqb (unwrap_or found count) label ≡ is_label found label
number_is None count label below = ne_eqb count label (λ same. omega (arith, same, below))
number_is (Some other) count label below = refl

pub bucket_members : (labels : List (Option ℕ)) (members : List (List ℕ)) (label : ℕ) → members ≡ buckets_of (label_numbers labels) (length labels) → ((k label : ℕ) → get_or labels k None ≡ Some label → label < length labels) → get_or members label [] ≡ members_of labels label
unfolding buckets_of indices_of indices_below label_numbers members_of
bucket_members labels members label is below = ap (λ (rows : List (List ℕ)). get_or rows label []) is ∙ elim (cases_lt label (length labels)) [
  | inl inside ↦
      get_or-map-range_with_len (λ number. indices_of number (label_numbers labels)) 0 (length labels) label label [] inside (omega arith)
      ∙ ap (λ n. filter (λ k. eqb (get_or (label_numbers labels) k 0) label) (range_with_len 0 n)) (length-map labels (λ found. unwrap_or found (length labels)))
      ∙ agree (λ k. eqb (get_or (label_numbers labels) k 0) label) (λ k. is_label (get_or labels k None) label) 0 (length labels) (λ k from within.
      ap (λ n. eqb n label) (get_or-map (λ found. unwrap_or found (length labels)) labels k None 0 (omega (arith, within))) ∙ number_is (get_or labels k None) (length labels) label inside)
  | inr past ↦
      get_or_past (buckets_of (label_numbers labels) (length labels)) label [] (omega (arith, past, bucket_count (label_numbers labels) (length labels)))
      ∙ sym (none_kept (λ k. is_label (get_or labels k None) label) 0 (length labels) (λ k. false_from_ne_true (is_label (get_or labels k None) label) (λ h. omega (arith, past, below k label (label_is (get_or labels k None) label h)))))
]

-- ---- members and labels
-- what is listed is contained
contained : (names : List ℕ) (n : ℕ) → lists names n ≡ true → Contains names n
contained names n h = let found = listed_at names n h in (found.0, found.1, get_or_default names found.0 n 0 found.1 ∙ found.2)

-- a node with a label is one of those that there are
pub node_within : (labels : List (Option ℕ)) (n label : ℕ) → get_or labels n None ≡ Some label → n < length labels
node_within labels n label is = elim (cases_lt n (length labels)) [
  | inl below ↦ below
  | inr past ↦ cc (sym is ∙ get_or_past labels n None past)
]

pub member_has : (labels : List (Option ℕ)) (label n : ℕ) → Contains (members_of labels label) n → get_or labels n None ≡ Some label
unfolding members_of
member_has labels label n (i, below, is) =
    let kept = kept_at (λ k. is_label (get_or labels k None) label) (length labels) i below in
    let at : get_or (members_of labels label) i 0 ≡ n = get_or_default (members_of labels label) i 0 n below ∙ is in
    label_is (get_or labels n None) label (subst (λ k. is_label (get_or labels k None) label ≡ true) at kept.1)

pub has_member : (labels : List (Option ℕ)) (label n : ℕ) → get_or labels n None ≡ Some label → Contains (members_of labels label) n
unfolding members_of
has_member labels label n is = contained (members_of labels label) n (keeps (λ k. is_label (get_or labels k None) label) (length labels) n (node_within labels n label is) (is_itself (get_or labels n None) label is))

pub has_own : (labels : List (Option ℕ)) (label : ℕ) → get_or labels label None ≡ Some label → Contains (own_labels labels) label
unfolding own_labels
has_own labels label is = contained (own_labels labels) label (keeps (λ k. is_label (get_or labels k None) k) (length labels) label (node_within labels label label is) (is_itself (get_or labels label None) label is))

-- ---- one more node
pub own_more : (labels : List (Option ℕ)) (n : ℕ) → filter (λ k. is_label (get_or labels k None) k) (range_with_len 0 (n + 1)) ≡ filter (λ k. is_label (get_or labels k None) k) (range_with_len 0 n) ++ cond (is_label (get_or labels n None) n) (n ∷ []) []
own_more labels n =
    let test = λ (k : ℕ). is_label (get_or labels k None) k in
    ap (filter test) (sym (map-id (range_with_len 0 (n + 1)))) ∙ filter_of_map_range_with_len_more test (λ k. k) 0 n n (omega arith)
    ∙ ap (λ l. filter test l ++ cond (test n) (n ∷ []) []) (map-id (range_with_len 0 n))

pub all_own : (labels : List (Option ℕ)) (n : ℕ) → n ≡ length labels → filter (λ k. is_label (get_or labels k None) k) (range_with_len 0 n) ≡ own_labels labels
unfolding own_labels
all_own labels n is = ap (λ k. filter (λ k. is_label (get_or labels k None) k) (range_with_len 0 k)) is

pub all_numbers : (labels : List (Option ℕ)) → map (λ label. unwrap_or label (length labels)) labels ≡ label_numbers labels
unfolding label_numbers
all_numbers labels = refl

-- the test of a label in the code
label_eq : (found : Option ℕ) (n : ℕ) → option_eq eqb found (Some n) ≡ is_label found n
label_eq None n = refl
label_eq (Some other) n = refl

-- one more node is its own label, or it is not
pub one_own : (labels : List (Option ℕ)) (n : ℕ) (own more : List ℕ) (same : Bool) → same ≡ option_eq eqb (get_or labels n None) (Some n) → own ≡ filter (λ k. is_label (get_or labels k None) k) (range_with_len 0 n) → more ≡ own ++ cond same (n ∷ []) []
    → more ≡ filter (λ k. is_label (get_or labels k None) k) (range_with_len 0 (n + 1))
one_own labels n own more same test before is =
    is
    ∙ ap (λ (l : List ℕ). l ++ cond same (n ∷ []) []) before
    ∙ ap (λ b. filter (λ k. is_label (get_or labels k None) k) (range_with_len 0 n) ++ cond b (n ∷ []) []) (test ∙ label_eq (get_or labels n None) n)
    ∙ sym (own_more labels n)
