-- The numbers of groups, as they are read from labels and flags.
use Rattle.std.proofs.Common.{◌≡◌, ℕ, ◌+◌, ◌<◌, Bool, true, false, not, suc, List, [], ◌∷◌, ◌++◌, length, get_or, map, take, refl, sym, ap, ◌∙◌, arith, inl, inr}
use Rattle.std.proofs.lemmas.Bool.{cases_eq}
use Rattle.std.proofs.lemmas.List.{length_push, get_or_push, get_or_append_left, ext_get_or, length-take, get_or-take}
use Rattle.asset_names.specs.Arrows.{lists}
use Rattle.asset_names.specs.Answers.{IsLegal}
use Rattle.asset_names.specs.Steps.{Opening, Entry}
use Rattle.asset_names.specs.Groups.{same_group, dead}
use Rattle.asset_names.proofs.ListLemmas.{listed_at}
use Rattle.asset_name_groups.specs.NamesInGroups.{NamesInGroups, flag_at, IsConsistent}
use Rattle.asset_history.specs.Kept.{AreLabels}
use Rattle.asset_history.proofs.DeadLemmas.{dead_is}
use Rattle.asset_deletion.specs.Named.{Means}
use Rattle.asset_deletion.specs.Numbered.{groups_before, group_numbers, group_count, number_of, AreCounted, AreNumbered}
use Rattle.asset_deletion.specs.Grouping.{Grouping, grouping_of}
use Rattle.asset_deletion.proofs.NumberLemmas.{counted, passed, before_more, number_at, numbers_long}
use Rattle.asset_deletion.proofs.GroupingLemmas.{labels_exist, grouping_is}

module _ (kept : NamesInGroups) (sound : IsConsistent kept) (node : ℕ) (within : node < length kept.names) where
  next : node + 1 ≡ suc node
  next = omega arith

  -- an earlier node of the group has been counted
  pub counted_before : (is_dead : List Bool) → get_or kept.labels node 0 < node → AreCounted kept is_dead node → AreCounted kept is_dead (node + 1)
  counted_before is_dead before so_far = record {
    count = so_far.count ∙ sym (ap (groups_before kept.labels) next ∙ passed kept.labels node (λ same. omega (arith, same, before)));
    dead = λ k below. elim (cases_eq k node) [
      | inr other ↦ so_far.dead k (omega (arith, below))
      | inl last ↦
          let l = get_or kept.labels node 0 in
          let own : get_or kept.labels l 0 ≡ l = sound.own node within in
          ap (λ m. get_or is_dead (number_of kept m) false) last ∙ ap (λ m. get_or is_dead (groups_before kept.labels m) false) (sym own) ∙ so_far.dead l before
          ∙ ap not (sound.alike l node (omega (arith, before, within)) within own) ∙ ap (λ m. not (flag_at kept.flags m)) (sym last)
    ];
  }

  -- the first node of a group counts one more
  pub counted_first : (is_dead : List Bool) → get_or kept.labels node 0 ≡ node → AreCounted kept is_dead node → AreCounted kept (is_dead ++ not (flag_at kept.flags node) ∷ []) (node + 1)
  counted_first is_dead own so_far = record {
    count = length_push is_dead (not (flag_at kept.flags node)) ∙ omega (arith, so_far.count, counted kept.labels node own, ap (groups_before kept.labels) next);
    dead = λ k below. elim (cases_eq k node) [
      | inr other ↦
          let less : k < node = omega (arith, below) in
          let inside : number_of kept k < length is_dead = omega (arith, so_far.count, before_more kept.labels node (get_or kept.labels k 0) (omega (arith, sound.least k (omega (arith, less, within)), less)) (sound.own k (omega (arith, less, within)))) in
          get_or_append_left is_dead (not (flag_at kept.flags node) ∷ []) false (number_of kept k) inside ∙ so_far.dead k less
      | inl last ↦
          get_or_push is_dead (not (flag_at kept.flags node)) false (number_of kept k) (so_far.count ∙ ap (groups_before kept.labels) (sym own) ∙ ap (λ m. number_of kept m) (sym last))
          ∙ ap (λ m. not (flag_at kept.flags m)) (sym last)
    ];
  }

  -- the next name is not among those before it
  pub next_is_new : lists (take node kept.names) (get_or kept.names node 0) ≡ false
  next_is_new = go (lists (take node kept.names) (get_or kept.names node 0)) refl where
    go : (b : Bool) → lists (take node kept.names) (get_or kept.names node 0) ≡ b → b ≡ false
    go false is = refl
    go true is =
        let at = listed_at (take node kept.names) (get_or kept.names node 0) is in
        let less : at.0 < node = omega (arith, at.1, length-take node kept.names) in
        absurd (omega (arith, less, sound.different at.0 node (omega (arith, less, within)) within (sym (get_or-take node kept.names at.0 0 less) ∙ at.2)))

-- all names with their numbers are the grouping
pub read_is : (opening : Opening) (entries : List Entry) (kept : NamesInGroups) (names numbers : List ℕ) (is_dead : List Bool) → IsLegal opening entries → IsConsistent kept → AreLabels entries kept
    → names ≡ kept.names → AreNumbered kept numbers (length kept.names) → AreCounted kept is_dead (length kept.names)
    → (let g : Grouping = record { names = names; numbers = numbers; count = length is_dead; dead = map (λ g. get_or is_dead g false) numbers } in g ≡ grouping_of entries)
unfolding group_count
read_is opening entries kept names numbers is_dead legal sound labels names_are numbered counted_all =
    let all = labels_exist entries in
    let size : length numbers ≡ length kept.labels = numbered.long ∙ sym sound.each_has_label in
    let means : Means (same_group entries) names kept.labels = rw names_are (record {
      long = sound.each_has_label;
      low = sound.least;
      own = sound.own;
      same = labels.same;
      first = λ n m none. all.1.first n m (ap (λ l. lists l n) (sym labels.names) ∙ none);
      second = λ n m none. all.1.second n m (ap (λ l. lists l m) (sym labels.names) ∙ none);
    }) in
    let numbers_are : numbers ≡ group_numbers kept.labels = ext_get_or 0 numbers (group_numbers kept.labels) (size ∙ sym (numbers_long kept.labels))
    (λ k below. numbered.each k (omega (arith, below, numbered.long)) ∙ sym (number_at kept.labels k (omega (arith, below, size)))) in
    grouping_is entries names numbers kept.labels is_dead (names_are ∙ labels.names) means numbers_are (counted_all.count ∙ ap (groups_before kept.labels) (sym sound.each_has_label))
    (λ k below.
    let inside : k < length kept.names = omega (arith, below, ap length names_are) in
    let alive = ap not (labels.flags k inside) ∙ sym (dead_is opening entries (get_or kept.names k 0) legal) in
    ap (λ n. get_or is_dead n false) (numbered.each k inside) ∙ counted_all.dead k inside ∙ alive ∙ ap (λ l. dead entries (get_or l k 0)) (sym names_are))

-- each number is below the count
pub read_below : (kept : NamesInGroups) (names numbers : List ℕ) (is_dead : List Bool) → IsConsistent kept → names ≡ kept.names → AreNumbered kept numbers (length kept.names) → AreCounted kept is_dead (length kept.names)
    → (length numbers ≡ length names) × ((k : ℕ) → k < length names → get_or numbers k 0 < length is_dead)
read_below kept names numbers is_dead sound names_are numbered counted_all = (
  numbered.long ∙ sym (ap length names_are),
  λ k below.
      let inside : k < length kept.names = omega (arith, below, ap length names_are) in
      omega (arith, numbered.each k inside, counted_all.count, before_more kept.labels (length kept.names) (get_or kept.labels k 0) (omega (arith, sound.least k inside, inside)) (sound.own k inside)),
)
