-- What a join and a flag do to labels and flags.
use Rattle.std.proofs.Common.{◌≡◌, ℕ, ◌<◌, min, Bool, true, false, cond, eqb, ◌||◌, List, length, get_or, refl, sym, ap, ◌∙◌, arith, ◌⊎◌, inl, inr}
use Rattle.std.proofs.lemmas.Bool.{or_cases, or_left, or_right, eqb-true, eq-eqb, false≢true, cond-true, cond-false}
use Rattle.std.proofs.lemmas.List.{get_or-map}
use Rattle.std.proofs.lemmas.List.FromFn.{get_or-map-range_with_len}
use Rattle.asset_names.specs.Steps.{Entry}
use Rattle.asset_names.specs.Groups.{same_group}
use Rattle.asset_laws.proofs.GroupLemmas.{group_sym, group_trans}
use Rattle.asset_name_groups.specs.Labelled.{merged}
use Rattle.asset_name_groups.specs.NamesInGroups.{NamesInGroups, flag_at, merged_flags, with_join, IsConsistent}
use Rattle.asset_name_groups.proofs.LabelLemmas.{merged_is}
use Rattle.asset_history.specs.Together.{name_at, label_at, IsWith, commits, AreOfEntries, AreFlagged, AreJoined, HaveGrown}

-- ---- labels and flags after a join

-- whether the label is one of those that are joined
is_one : ℕ → ℕ → ℕ → Bool
is_one p q label = eqb label p || eqb label q

-- a label after the join of p and q
joined_label : ℕ → ℕ → ℕ → ℕ
joined_label p q label = cond (eqb label p || eqb label q) (min p q) label

merged_at : (labels : List ℕ) (p q k : ℕ) → k < length labels → get_or (merged labels p q) k 0 ≡ joined_label p q (get_or labels k 0)
unfolding joined_label
merged_at labels p q k below = ap (λ l. get_or l k 0) (sym (merged_is labels p q)) ∙ get_or-map (λ label. cond (eqb label p || eqb label q) (min p q) label) labels k 0 0 below

min_of : (p q : ℕ) → (min p q ≡ p) ⊎ (min p q ≡ q)
min_of p q = grind arith

one_cases : (p q label : ℕ) → is_one p q label ≡ true → (label ≡ p) ⊎ (label ≡ q)
unfolding is_one
one_cases p q label h = elim (or_cases (eqb label p) _ h) [ inl a ↦ inl (eqb-true label p a) | inr b ↦ inr (eqb-true label q b) ]

one_from : (p q label : ℕ) → (label ≡ p) ⊎ (label ≡ q) → is_one p q label ≡ true
unfolding is_one
one_from p q label (inl a) = or_left _ _ (eq-eqb label p a)
one_from p q label (inr b) = or_right (eqb label p) _ (eq-eqb label q b)

least_one : (p q : ℕ) → is_one p q (min p q) ≡ true
least_one p q = one_from p q (min p q) (min_of p q)

label_in : (p q label : ℕ) → is_one p q label ≡ true → joined_label p q label ≡ min p q
unfolding is_one joined_label
label_in p q label h = cond-true (eqb label p || eqb label q) (min p q) label h

label_out : (p q label : ℕ) → is_one p q label ≡ false → joined_label p q label ≡ label
unfolding is_one joined_label
label_out p q label h = cond-false (eqb label p || eqb label q) (min p q) label h

-- labels that are one after the join were one, or both were among the two
joined_cases : (p q x y : ℕ) → joined_label p q x ≡ joined_label p q y → (x ≡ y) ⊎ ((is_one p q x ≡ true) × (is_one p q y ≡ true))
joined_cases p q x y same = go (is_one p q x) refl (is_one p q y) refl where
  go : (a : Bool) → is_one p q x ≡ a → (b : Bool) → is_one p q y ≡ b → (x ≡ y) ⊎ ((is_one p q x ≡ true) × (is_one p q y ≡ true))
  go true e true f = inr (e, f)
  go false e false f = inl (sym (label_out p q x e) ∙ same ∙ label_out p q y f)
  go true e false f = absurd (false≢true (sym f ∙ ap (is_one p q) (sym (label_out p q y f) ∙ sym same ∙ label_in p q x e) ∙ least_one p q))
  go false e true f = absurd (false≢true (sym e ∙ ap (is_one p q) (sym (label_out p q x e) ∙ same ∙ label_in p q y f) ∙ least_one p q))

joined_both : (p q x y : ℕ) → is_one p q x ≡ true → is_one p q y ≡ true → joined_label p q x ≡ joined_label p q y
joined_both p q x y one other = label_in p q x one ∙ sym (label_in p q y other)

flags_at : (labels : List ℕ) (flags : List Bool) (p q k : ℕ) → k < length labels
    → flag_at (merged_flags labels flags p q) k ≡ cond (is_one p q (get_or labels k 0)) (flag_at flags p || flag_at flags q) (flag_at flags k)
unfolding merged_flags flag_at is_one
flags_at labels flags p q k below =
    get_or-map-range_with_len (λ m. cond (eqb (get_or labels m 0) p || eqb (get_or labels m 0) q) (get_or flags p false || get_or flags q false) (get_or flags m false)) 0 (length labels) k k false below (omega arith)

-- ---- a join

-- the members of the two groups that are joined are of one group of the entries
to_first : (entries : List Entry) (g : NamesInGroups) (i j k : ℕ) → AreOfEntries entries g → i < length g.names → j < length g.names → k < length g.names → same_group entries (name_at g i) (name_at g j) ≡ true
    → is_one (label_at g i) (label_at g j) (label_at g k) ≡ true → same_group entries (name_at g k) (name_at g i) ≡ true
to_first entries g i j k of is_i is_j is_k together one = elim (one_cases (label_at g i) (label_at g j) (label_at g k) one) [
  | inl first ↦ of k i is_k is_i first
  | inr second ↦ group_trans entries (name_at g k) (name_at g j) (name_at g i) (of k j is_k is_j second) (group_sym entries (name_at g i) (name_at g j) together)
]

module _ (g : NamesInGroups) (sound : IsConsistent g) (i j : ℕ) (is_i : i < length g.names) (is_j : j < length g.names) where
  after : NamesInGroups
  after = with_join g i j

  label_after : (k : ℕ) → k < length g.names → label_at after k ≡ joined_label (label_at g i) (label_at g j) (label_at g k)
  unfolding after with_join
  label_after k below = merged_at g.labels (label_at g i) (label_at g j) k (omega (arith, sound.each_has_label))

  flag_after : (k : ℕ) → k < length g.names → flag_at after.flags k ≡ cond (is_one (label_at g i) (label_at g j) (label_at g k)) (flag_at g.flags (label_at g i) || flag_at g.flags (label_at g j)) (flag_at g.flags k)
  unfolding after with_join
  flag_after k below = flags_at g.labels g.flags (label_at g i) (label_at g j) k (omega (arith, sound.each_has_label))

  -- the flag of a label is that of each node with it
  flag_of_label : (m k : ℕ) → m < length g.names → k < length g.names → label_at g k ≡ label_at g m → flag_at g.flags (label_at g m) ≡ flag_at g.flags k
  flag_of_label m k is_m is_k same = sound.alike (label_at g m) k (omega (arith, sound.least m is_m)) is_k (sound.own m is_m ∙ sym same)

  stay_after : (k m : ℕ) → k < length g.names → m < length g.names → label_at g k ≡ label_at g m → label_at after k ≡ label_at after m
  stay_after k m is_k is_m same = label_after k is_k ∙ ap (joined_label (label_at g i) (label_at g j)) same ∙ sym (label_after m is_m)

  cases_after : (k m : ℕ) → k < length g.names → m < length g.names → label_at after k ≡ label_at after m
      → (label_at g k ≡ label_at g m) ⊎ ((is_one (label_at g i) (label_at g j) (label_at g k) ≡ true) × (is_one (label_at g i) (label_at g j) (label_at g m) ≡ true))
  cases_after k m is_k is_m same = joined_cases (label_at g i) (label_at g j) (label_at g k) (label_at g m) (sym (label_after k is_k) ∙ same ∙ label_after m is_m)

  of_after : (entries : List Entry) → same_group entries (name_at g i) (name_at g j) ≡ true → AreOfEntries entries g → AreOfEntries entries after
  unfolding after with_join
  of_after entries together of k m is_k is_m same = elim (cases_after k m is_k is_m same) [
    | inl before ↦ of k m is_k is_m before
    | inr both ↦
        group_trans entries (name_at g k) (name_at g i) (name_at g m) (to_first entries g i j k of is_i is_j is_k together both.0)
        (group_sym entries (name_at g m) (name_at g i) (to_first entries g i j m of is_i is_j is_m together both.1))
  ]

  flagged_after : (seen : List Entry) → AreFlagged seen g → AreFlagged seen after
  unfolding after with_join
  flagged_after seen flagged = record { by = by; flagged = mark } where
    p : ℕ
    p = label_at g i

    q : ℕ
    q = label_at g j

    one : ℕ → Bool
    one k = is_one p q (label_at g k)

    Found : ℕ → Type 0
    Found k = (m : ℕ) × (m < length g.names) × (label_at (with_join g i j) m ≡ label_at (with_join g i j) k) × (commits seen (name_at g m) ≡ true)

    from_one : (k n : ℕ) → k < length g.names → n < length g.names → one k ≡ true → one n ≡ true → flag_at g.flags n ≡ true → Found k
    from_one k n is_k is_n one_k one_n h =
        let found = flagged.by n is_n h in
        (found.0, found.1, label_after found.0 found.1 ∙ joined_both p q (label_at g found.0) (label_at g k) (ap (is_one p q) found.2 ∙ one_n) one_k ∙ sym (label_after k is_k), found.3)

    by : (k : ℕ) → k < length g.names → flag_at (with_join g i j).flags k ≡ true → Found k
    by k is_k h = go (one k) refl where
      go : (b : Bool) → one k ≡ b → Found k
      go false e =
          let was : flag_at g.flags k ≡ true = sym (cond-false (one k) (flag_at g.flags p || flag_at g.flags q) (flag_at g.flags k) e) ∙ sym (flag_after k is_k) ∙ h in
          let found = flagged.by k is_k was in
          (found.0, found.1, stay_after found.0 k found.1 is_k found.2, found.3)
      go true e = elim (or_cases (flag_at g.flags p) _ (sym (cond-true (one k) (flag_at g.flags p || flag_at g.flags q) (flag_at g.flags k) e) ∙ sym (flag_after k is_k) ∙ h)) [
        | inl first ↦ from_one k i is_k is_i e (one_from p q p (inl refl)) (sym (flag_of_label i i is_i is_i refl) ∙ first)
        | inr second ↦ from_one k j is_k is_j e (one_from p q q (inr refl)) (sym (flag_of_label j j is_j is_j refl) ∙ second)
      ]

    marked : (k m : ℕ) → k < length g.names → m < length g.names → one k ≡ true → one m ≡ true → commits seen (name_at g m) ≡ true → flag_at (with_join g i j).flags k ≡ true
    marked k m is_k is_m one_k one_m h =
        let own = flagged.flagged m m is_m is_m refl h in
        flag_after k is_k ∙ cond-true (one k) (flag_at g.flags p || flag_at g.flags q) (flag_at g.flags k) one_k ∙ elim (one_cases p q (label_at g m) one_m) [
          | inl first ↦ or_left _ _ (flag_of_label i m is_i is_m first ∙ own)
          | inr second ↦ or_right (flag_at g.flags p) _ (flag_of_label j m is_j is_m second ∙ own)
        ]

    mark : (k m : ℕ) → k < length g.names → m < length g.names → label_at (with_join g i j) m ≡ label_at (with_join g i j) k → commits seen (name_at g m) ≡ true → flag_at (with_join g i j).flags k ≡ true
    mark k m is_k is_m same h = elim (cases_after m k is_m is_k same) [
      | inr both ↦ marked k m is_k is_m both.1 both.0 h
      | inl before ↦ go before (one k) refl
    ] where
      go : label_at g m ≡ label_at g k → (b : Bool) → one k ≡ b → flag_at (with_join g i j).flags k ≡ true
      go before true e = marked k m is_k is_m e (ap (is_one p q) before ∙ e) h
      go before false e = flag_after k is_k ∙ cond-false (one k) (flag_at g.flags p || flag_at g.flags q) (flag_at g.flags k) e ∙ flagged.flagged k m is_k is_m before h

  pub joined_nodes : (entries : List Entry) → same_group entries (name_at g i) (name_at g j) ≡ true → AreJoined entries g (with_join g i j)
  unfolding with_join after
  joined_nodes entries together = record { names = refl; room = refl; stay = stay_after; of_entries = of_after entries together; flagged = flagged_after }

  pub joined_one : label_at (with_join g i j) i ≡ label_at (with_join g i j) j
  unfolding after
  joined_one = label_after i is_i ∙ joined_both (label_at g i) (label_at g j) (label_at g i) (label_at g j) (one_from (label_at g i) (label_at g j) (label_at g i) (inl refl)) (one_from (label_at g i) (label_at g j) (label_at g j) (inr refl)) ∙ sym (label_after j is_j)

  pub grown_nodes : HaveGrown g (with_join g i j)
  unfolding with_join after
  grown_nodes = record { more = omega arith; names = λ k below. refl; stay = stay_after }

-- ---- one join after another

pub joined_none : (entries : List Entry) (g : NamesInGroups) → AreJoined entries g g
joined_none entries g = record { names = refl; room = refl; stay = λ i j is_i is_j same. same; of_entries = λ of. of; flagged = λ seen flagged. flagged }

pub joined_trans : (entries : List Entry) (a b c : NamesInGroups) → AreJoined entries a b → AreJoined entries b c → AreJoined entries a c
joined_trans entries a b c first second = record {
  names = second.names ∙ first.names;
  room = second.room ∙ first.room;
  stay = λ i j is_i is_j same. second.stay i j (rw first.names is_i) (rw first.names is_j) (first.stay i j is_i is_j same);
  of_entries = λ of. second.of_entries (first.of_entries of);
  flagged = λ seen flagged. second.flagged seen (first.flagged seen flagged);
}

pub joined_grown : (entries : List Entry) (a b : NamesInGroups) → AreJoined entries a b → HaveGrown a b
joined_grown entries a b joined = record { more = omega (arith, ap length joined.names); names = λ k below. ap (λ l. get_or l k 0) joined.names; stay = joined.stay }

pub grown_trans : (a b c : NamesInGroups) → HaveGrown a b → HaveGrown b c → HaveGrown a c
grown_trans a b c first second = record {
  more = omega (arith, first.more, second.more);
  names = λ k below. second.names k (omega (arith, first.more)) ∙ first.names k below;
  stay = λ i j is_i is_j same. second.stay i j (omega (arith, first.more)) (omega (arith, first.more)) (first.stay i j is_i is_j same);
}

-- who is of a node's group stays there
pub with_grown : (a b : NamesInGroups) (u node : ℕ) → HaveGrown a b → node < length a.names → IsWith a u node → IsWith b u node
with_grown a b u node grown within found = (found.0, omega (arith, grown.more, found.1), grown.names found.0 found.1 ∙ found.2, grown.stay found.0 node found.1 within found.3)
