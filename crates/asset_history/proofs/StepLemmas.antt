-- How an entry changes the groups.
use Rattle.std.proofs.Common.{◌≡◌, ℕ, ◌+◌, ◌<◌, Bool, true, false, cond, eqb, ◌&&◌, ◌||◌, List, [], ◌∷◌, ◌++◌, length, reverse, refl, sym, ap, subst, ◌∙◌, arith, ◌⊎◌, inl, inr, Some}
use Rattle.std.specs.Prelude.{slice_get}
use Rattle.std.proofs.lemmas.Bool.{cond-true, or_cases, and_parts, cases_eq, eqb-true, eq-eqb, false≢true}
use Rattle.std.proofs.lemmas.List.{length_push, get_or_push, get_or_append_left}
use Rattle.asset_names.specs.declared.names.Txn.{Txn}
use Rattle.asset_names.specs.Arrows.{Arrow, lists, with_name, has_arrow, Chain}
use Rattle.asset_names.specs.Arrows.Chain.{stay, along}
use Rattle.asset_names.specs.Paths.{both_ways}
use Rattle.asset_names.specs.Steps.{Entry}
use Rattle.asset_names.specs.Groups.{actor, partner, joins, same_group}
use Rattle.asset_names.proofs.Common.{both_follow}
use Rattle.asset_names.proofs.Arrows.{chain_from_linked}
use Rattle.asset_names.proofs.DependLemmas.{has_both}
use Rattle.asset_names.proofs.ListLemmas.{listed_at, lists_at}
use Rattle.asset_names.proofs.PermitLemmas.{has_listed}
use Rattle.asset_laws.proofs.GroupLemmas.{group_refl, joined_same, later_join}
use Rattle.asset_name_groups.specs.NamesInGroups.{NamesInGroups, flag_at, has_name, one_more, with_node, IsConsistent}
use Rattle.asset_history.specs.Named.{names_of}
use Rattle.asset_history.specs.Together.{name_at, label_at, commits, AreOfEntries, AreFlagged, AreJoined, HaveGrown}
use Rattle.asset_history.specs.Kept.{before, pair_of, pair_at, Respect, AreLabels, AreNamed}
use Rattle.asset_history.proofs.FlagLemmas.{commit_acts, flags_by_labels}
use Rattle.asset_history.proofs.LabelLemmas.{joined_grown, grown_trans}
use Rattle.asset_history.proofs.LinkLemmas.{joins_one, joins_back, linked_by}
use Rattle.asset_history.proofs.MeetLemmas.{join_acts}
use Rattle.asset_history.proofs.NameLemmas.{all_acted, with_old, names_more}

-- ---- groups of more entries

-- an entry more parts nobody
pub group_more : (entry : Entry) (older : List Entry) (a b : ℕ) → same_group older a b ≡ true → same_group (entry ∷ older) a b ≡ true
unfolding same_group
group_more entry older a b h = linked_by (joins older) (joins (entry ∷ older)) (λ u v arrow. let more = later_join entry older u v arrow in (joins_one (joins (entry ∷ older)) u v more, joins_back (joins (entry ∷ older)) v u more)) a b h

pub of_more : (entry : Entry) (older : List Entry) (g : NamesInGroups) → AreOfEntries older g → AreOfEntries (entry ∷ older) g
of_more entry older g of i j is_i is_j same = group_more entry older (name_at g i) (name_at g j) (of i j is_i is_j same)

-- labels are of their entries
pub of_labels : (entries : List Entry) (g : NamesInGroups) → AreLabels entries g → AreOfEntries entries g
of_labels entries g labels i j is_i is_j same = sym (labels.same i j is_i is_j) ∙ eq-eqb (label_at g i) (label_at g j) same

-- ---- one more name

module _ (g : NamesInGroups) (sound : IsConsistent g) (t : ℕ) (new : has_name g.names t ≡ false) where
  more : NamesInGroups
  more = one_more g t

  old_name : (k : ℕ) → k < length g.names → name_at more k ≡ name_at g k
  unfolding more one_more
  old_name k below = get_or_append_left g.names (t ∷ []) 0 k below

  old_label : (k : ℕ) → k < length g.names → label_at more k ≡ label_at g k
  unfolding more one_more
  old_label k below = get_or_append_left g.labels (length g.labels ∷ []) 0 k (omega (arith, sound.each_has_label))

  old_flag : (k : ℕ) → k < length g.names → flag_at more.flags k ≡ flag_at g.flags k
  unfolding more one_more flag_at
  old_flag k below = get_or_append_left g.flags (false ∷ []) false k (omega (arith, sound.each_has_flag))

  new_name : name_at more (length g.names) ≡ t
  unfolding more one_more
  new_name = get_or_push g.names t 0 (length g.names) refl

  new_label : label_at more (length g.names) ≡ length g.names
  unfolding more one_more
  new_label = get_or_push g.labels (length g.labels) 0 (length g.names) sound.each_has_label ∙ sound.each_has_label

  new_flag : flag_at more.flags (length g.names) ≡ false
  unfolding more one_more flag_at
  new_flag = get_or_push g.flags false false (length g.names) sound.each_has_flag

  size : length more.names ≡ length g.names + 1
  unfolding more one_more
  size = length_push g.names t

  -- the new node, or an old one
  Either : ℕ → Type 0
  Either k = (k < length g.names) ⊎ (k ≡ length g.names)

  which : (k : ℕ) → k < length more.names → Either k
  unfolding Either
  which k below = elim (cases_eq k (length g.names)) [ inl last ↦ inr last | inr other ↦ inl (omega (arith, size)) ]

  -- no old node has the label of the new one
  apart : (k m : ℕ) → k < length g.names → m ≡ length g.names → label_at more k ≡ label_at more m → ⊥
  apart k m is_k last same = omega (arith, sound.least k is_k, sym (old_label k is_k) ∙ same ∙ ap (label_at more) last ∙ new_label)

  pub one_more_grown : HaveGrown g (one_more g t)
  unfolding more
  one_more_grown = record { more = omega (arith, size); names = old_name; stay = λ i j is_i is_j same. old_label i is_i ∙ same ∙ sym (old_label j is_j) }

  pub one_more_of : (entries : List Entry) → AreOfEntries entries g → AreOfEntries entries (one_more g t)
  unfolding more Either
  one_more_of entries of i j is_i is_j same = go (which i is_i) (which j is_j) where
    go : Either i → Either j → same_group entries (name_at (one_more g t) i) (name_at (one_more g t) j) ≡ true
    go (inl old_i) (inl old_j) = rw (old_name i old_i, old_name j old_j) (of i j old_i old_j (sym (old_label i old_i) ∙ same ∙ old_label j old_j))
    go (inr last_i) (inr last_j) = ap (λ k. same_group entries (name_at (one_more g t) i) (name_at (one_more g t) k)) (last_j ∙ sym last_i) ∙ group_refl entries (name_at (one_more g t) i)
    go (inl old_i) (inr last_j) = absurd (apart i j old_i last_j same)
    go (inr last_i) (inl old_j) = absurd (apart j i old_j last_i (sym same))

  pub one_more_flagged : (seen : List Entry) → commits seen t ≡ false → AreFlagged seen g → AreFlagged seen (one_more g t)
  unfolding more Either
  one_more_flagged seen none flagged = record {
    by = λ k below h. elim (which k below) [
      | inl old ↦ let one = flagged.by k old (sym (old_flag k old) ∙ h) in (one.0, omega (arith, one.1, size), old_label one.0 one.1 ∙ one.2 ∙ sym (old_label k old), ap (commits seen) (old_name one.0 one.1) ∙ one.3)
      | inr last ↦ absurd (false≢true (sym (ap (flag_at more.flags) last ∙ new_flag) ∙ h))
    ];
    flagged = λ k m is_k is_m same h. elim (which m is_m) [
      | inl old_m ↦ elim (which k is_k) [
        | inl old_k ↦ old_flag k old_k ∙ flagged.flagged k m old_k old_m (sym (old_label m old_m) ∙ same ∙ old_label k old_k) (ap (commits seen) (sym (old_name m old_m)) ∙ h)
        | inr last_k ↦ absurd (apart m k old_m last_k same)
      ]
      | inr last_m ↦ absurd (false≢true (sym none ∙ ap (commits seen) (sym (ap (name_at more) last_m ∙ new_name)) ∙ h))
    ];
  }

-- a name that may be there already
module _ (g : NamesInGroups) (sound : IsConsistent g) (t : ℕ) where
  by_name : (P : NamesInGroups → Type 0) → P g → (has_name g.names t ≡ false → P (one_more g t)) → P (with_node g t)
  unfolding with_node
  by_name P there new = go (has_name g.names t) refl where
    go : (b : Bool) → has_name g.names t ≡ b → P (cond b g (one_more g t))
    go true is = there
    go false is = new is

  pub with_node_grown : HaveGrown g (with_node g t)
  with_node_grown = by_name (HaveGrown g) (record { more = omega arith; names = λ k below. refl; stay = λ i j is_i is_j same. same }) (λ new. one_more_grown g sound t new)

  pub with_node_of : (entries : List Entry) → AreOfEntries entries g → AreOfEntries entries (with_node g t)
  with_node_of entries of = by_name (AreOfEntries entries) of (λ new. one_more_of g sound t new entries of)

  pub with_node_flagged : (seen : List Entry) → (has_name g.names t ≡ false → commits seen t ≡ false) → AreFlagged seen g → AreFlagged seen (with_node g t)
  with_node_flagged seen none flagged = by_name (AreFlagged seen) flagged (λ new. one_more_flagged g sound t new seen (none new) flagged)

  pub with_node_names : (with_node g t).names ≡ with_name g.names t
  unfolding with_node one_more with_name has_name lists
  with_node_names = go (has_name g.names t) where
    go : (b : Bool) → (cond b g (one_more g t)).names ≡ cond b g.names (g.names ++ t ∷ [])
    go true = refl
    go false = refl

  pub with_node_room : (with_node g t).room ≡ g.room
  unfolding with_node one_more
  with_node_room = go (has_name g.names t) where
    go : (b : Bool) → (cond b g (one_more g t)).room ≡ g.room
    go true = refl
    go false = refl

-- one that is there stays
pub with_node_there : (g : NamesInGroups) (t k : ℕ) → k < length g.names → name_at g k ≡ t → g ≡ with_node g t
unfolding with_node has_name lists
with_node_there g t k below is = sym (cond-true (has_name g.names t) g (one_more g t) (lists_at g.names t k below is))

-- nobody committed who is not named
pub none_committed : (entries : List Entry) (t : ℕ) → lists (names_of entries) t ≡ false → commits entries t ≡ false
none_committed entries t none = go (commits entries t) refl where
  go : (b : Bool) → commits entries t ≡ b → b ≡ false
  go false is = refl
  go true is = absurd (false≢true (sym none ∙ all_acted entries t ∙ commit_acts entries t is))

-- ---- all joins

-- labels that have grown from those of older entries respect their joins
pub respect_grown : (older : List Entry) (g after : NamesInGroups) → AreLabels older g → HaveGrown g after → IsConsistent after → Respect after (joins older)
respect_grown older g after labels grown sound u v h i j is_i is_j name_i name_j =
    let acts = join_acts older u v h in
    let a = listed_at g.names u (ap (λ l. lists l u) labels.names ∙ all_acted older u ∙ acts.0) in
    let b = listed_at g.names v (ap (λ l. lists l v) labels.names ∙ all_acted older v ∙ acts.1) in
    let same : label_at g a.0 ≡ label_at g b.0 = eqb-true (label_at g a.0) (label_at g b.0) (labels.same a.0 b.0 a.1 b.1 ∙ (λ k. same_group older (a.2 k) (b.2 k)) ∙ joined_same older u v h) in
    let is_a : i ≡ a.0 = sound.different i a.0 is_i (omega (arith, a.1, grown.more)) (name_i ∙ sym (grown.names a.0 a.1 ∙ a.2)) in
    let is_b : j ≡ b.0 = sound.different j b.0 is_j (omega (arith, b.1, grown.more)) (name_j ∙ sym (grown.names b.0 b.1 ∙ b.2)) in
    ap (label_at after) is_a ∙ grown.stay a.0 b.0 a.1 b.1 same ∙ sym (ap (label_at after) is_b)

-- labels that respect all joins say the groups
pub labels_say : (entries : List Entry) (g : NamesInGroups) → IsConsistent g → g.names ≡ names_of entries → AreOfEntries entries g → Respect g (joins entries)
    → (i j : ℕ) → i < length g.names → j < length g.names → eqb (label_at g i) (label_at g j) ≡ same_group entries (name_at g i) (name_at g j)
unfolding same_group
labels_say entries g sound names of respect i j is_i is_j = both_follow _ _ (λ h. of i j is_i is_j (eqb-true (label_at g i) (label_at g j) h)) back where
  step : (u v : ℕ) → has_arrow (both_ways (joins entries)) u v ≡ true → (k m : ℕ) → k < length g.names → m < length g.names → name_at g k ≡ u → name_at g m ≡ v → label_at g k ≡ label_at g m
  step u v h k m is_k is_m name_k name_m = elim (or_cases (has_arrow (joins entries) u v) _ (sym (has_both (joins entries) u v) ∙ h)) [
    | inl there ↦ respect u v there k m is_k is_m name_k name_m
    | inr turned ↦ sym (respect v u turned m k is_m is_k name_m name_k)
  ]

  ends : (u v : ℕ) → has_arrow (both_ways (joins entries)) u v ≡ true → lists g.names v ≡ true
  ends u v h = ap (λ l. lists l v) names ∙ all_acted entries v ∙ elim (or_cases (has_arrow (joins entries) u v) _ (sym (has_both (joins entries) u v) ∙ h)) [
    | inl there ↦ (join_acts entries u v there).1
    | inr turned ↦ (join_acts entries v u turned).0
  ]

  walk : (u v : ℕ) → Chain (both_ways (joins entries)) u v → (k m : ℕ) → k < length g.names → m < length g.names → name_at g k ≡ u → name_at g m ≡ v → label_at g k ≡ label_at g m
  walk u v (stay n) k m is_k is_m name_k name_m = ap (label_at g) (sound.different k m is_k is_m (name_k ∙ sym name_m))
  walk u w (along a b c first rest) k m is_k is_m name_k name_m =
      let arrow = has_listed (both_ways (joins entries)) u b first in
      let at = listed_at g.names b (ends u b arrow) in
      step u b arrow k at.0 is_k at.1 name_k at.2 ∙ walk b w rest at.0 m at.1 is_m at.2 name_m

  back : same_group entries (name_at g i) (name_at g j) ≡ true → eqb (label_at g i) (label_at g j) ≡ true
  back h = eq-eqb (label_at g i) (label_at g j) (walk (name_at g i) (name_at g j) (chain_from_linked (both_ways (joins entries)) (name_at g i) (name_at g j) h) i j is_i is_j refl refl)

-- ---- the newest entry

-- one who is known is named already
pub named_known : (entry : Entry) (older : List Entry) (g : NamesInGroups) → IsConsistent g → AreLabels older g → lists (names_of older) (actor entry.0).0 ≡ true → partner entry.0 ≡ actor entry.0
    → AreNamed (entry ∷ older) older ((actor entry.0).0, (partner entry.0).0) g
unfolding names_of has_arrow
named_known entry older g sound labels known same =
    let t = (actor entry.0).0 in
    record {
      names = labels.names ∙ sym (ap (λ (u : Txn). with_name (with_name (names_of older) t) u.0) same ∙ ap (λ l. with_name l t) (with_old (names_of older) t known) ∙ with_old (names_of older) t known);
      of_entries = of_more entry older g (of_labels older g labels);
      joined_before = respect_grown older g g labels (record { more = omega arith; names = λ k below. refl; stay = λ i j is_i is_j one. one }) sound;
      joined_now = λ u v h i j is_i is_j name_i name_j. elim (or_cases (eqb t u && eqb (partner entry.0).0 v) false h) [
        | inl here ↦
            let parts = and_parts (eqb t u) _ here in
            let one : u ≡ v = sym (eqb-true t u parts.0) ∙ ap (λ (w : Txn). w.0) (sym same) ∙ eqb-true (partner entry.0).0 v parts.1 in
            ap (label_at g) (sound.different i j is_i is_j (name_i ∙ one ∙ sym name_j))
        | inr none ↦ absurd (false≢true none)
      ];
      flagged = flags_by_labels older g labels;
    }

-- two who are named and joined
unlisted_before : (names others : List ℕ) (a b : ℕ) → names ≡ others → lists (with_name names a) b ≡ false → lists others b ≡ false
unlisted_before names others a b same new = go (lists names b) refl where
  go : (c : Bool) → lists names b ≡ c → lists others b ≡ false
  go false is = ap (λ l. lists l b) (sym same) ∙ is
  go true is = absurd (false≢true (sym new ∙ names_more names a b ∙ ap (λ c. c || eqb a b) is))

module _ (entry : Entry) (older : List Entry) (g first second after : NamesInGroups) (t u i j : ℕ) (sound : IsConsistent g) (labels : AreLabels older g) (is_t : t ≡ (actor entry.0).0) (is_u : u ≡ (partner entry.0).0)
    (is_first : first ≡ with_node g t) (sound_first : IsConsistent first) (is_second : second ≡ with_node first u) (joined : AreJoined (entry ∷ older) second after) (sound_after : IsConsistent after)
    (is_i : i < length after.names) (is_j : j < length after.names) (name_i : name_at after i ≡ t) (name_j : name_at after j ≡ u) (one : label_at after i ≡ label_at after j) where
  grown_first : HaveGrown g first
  grown_first = subst (HaveGrown g) (sym is_first) (with_node_grown g sound t)

  grown_second : HaveGrown first second
  grown_second = subst (HaveGrown first) (sym is_second) (with_node_grown first sound_first u)

  pub pair_grown : HaveGrown g after
  pair_grown = grown_trans g first after grown_first (grown_trans first second after grown_second (joined_grown (entry ∷ older) second after joined))

  names_first : first.names ≡ with_name g.names t
  names_first = ap (λ (h : NamesInGroups). h.names) is_first ∙ with_node_names g sound t

  names_second : second.names ≡ with_name first.names u
  names_second = ap (λ (h : NamesInGroups). h.names) is_second ∙ with_node_names first sound_first u

  of_second : AreOfEntries (entry ∷ older) second
  of_second =
      let at_first = subst (AreOfEntries (entry ∷ older)) (sym is_first) (with_node_of g sound t (entry ∷ older) (of_more entry older g (of_labels older g labels))) in
      subst (AreOfEntries (entry ∷ older)) (sym is_second) (with_node_of first sound_first u (entry ∷ older) at_first)

  flagged_second : AreFlagged older second
  unfolding lists has_name
  flagged_second =
      let none_t : has_name g.names t ≡ false → commits older t ≡ false = λ new. none_committed older t (ap (λ l. lists l t) (sym labels.names) ∙ new) in
      let none_u : has_name first.names u ≡ false → commits older u ≡ false = λ new. none_committed older u (unlisted_before g.names (names_of older) t u labels.names (ap (λ l. lists l u) (sym names_first) ∙ new)) in
      let at_first = subst (AreFlagged older) (sym is_first) (with_node_flagged g sound t older none_t (flags_by_labels older g labels)) in
      subst (AreFlagged older) (sym is_second) (with_node_flagged first sound_first u older none_u at_first)

  pub named_pair : AreNamed (entry ∷ older) older ((actor entry.0).0, (partner entry.0).0) after
  unfolding names_of has_arrow
  named_pair = record {
    names = joined.names ∙ names_second ∙ ap (λ l. with_name l u) names_first ∙ (λ k. with_name (with_name (labels.names k) (is_t k)) (is_u k));
    of_entries = joined.of_entries of_second;
    joined_before = respect_grown older g after labels pair_grown sound_after;
    joined_now = λ v w h k m is_k is_m name_k name_m. elim (or_cases (eqb (actor entry.0).0 v && eqb (partner entry.0).0 w) false h) [
      | inl here ↦
          let parts = and_parts (eqb (actor entry.0).0 v) _ here in
          let same_k : k ≡ i = sound_after.different k i is_k is_i (name_k ∙ sym (eqb-true (actor entry.0).0 v parts.0) ∙ sym is_t ∙ sym name_i) in
          let same_m : m ≡ j = sound_after.different m j is_m is_j (name_m ∙ sym (eqb-true (partner entry.0).0 w parts.1) ∙ sym is_u ∙ sym name_j) in
          ap (label_at after) same_k ∙ one ∙ sym (ap (label_at after) same_m)
      | inr none ↦ absurd (false≢true none)
    ];
    flagged = joined.flagged older flagged_second;
  }

-- ---- by the index of the newest entry

pub named_at : (all : List Entry) (n : ℕ) (entry : Entry) (g : NamesInGroups) → slice_get (reverse all) n ≡ Some entry → all ≡ entry ∷ before all n
    → AreNamed (entry ∷ before all n) (before all n) ((actor entry.0).0, (partner entry.0).0) g → AreNamed all (before all n) (pair_at all n) g
unfolding pair_of
named_at all n entry g at whole named =
    subst (λ (l : List Entry). AreNamed l (before all n) (pair_at all n) g) (sym whole)
    (subst (λ (p : Arrow). AreNamed (entry ∷ before all n) (before all n) p g) (sym (ap pair_of at)) named)
