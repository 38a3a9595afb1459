-- What a call makes of the table of permits.
use Rattle.std.proofs.Common.{◌≡◌, ℕ, ◌<◌, ◌≤◌, Bool, true, false, List, [], ◌∷◌, ◌||◌, ◌&&◌, eqb, ◌⊎◌, filter_map, Option, Some, None, IfSome, IfNone, is_some, sym, ap, subst, ◌∙◌, arith, inl, inr}
use Rattle.std.specs.Prelude.{slice_index_or, flat_map}
use Rattle.std.proofs.lemmas.Bool.{eqb-false, eqb-true, eq-eqb, ne_eqb, true≢false, false_from_ne_true, cases_eq, and_from, and_parts, or_left, or_right, or_cases}
use Rattle.slab.specs.Slab.{Slab, get, Updates}
use Rattle.asset_names.specs.declared.names.Txn.{Txn}
use Rattle.asset_chains.specs.Chained.{chain_of, home_of, first_of}
use Rattle.asset_chains.specs.declared.side.Side.TheVariants.{Row, Column}
use Rattle.asset_chains.specs.Crossed.{Crossed, IsGrown, Joins, Loses, IsCrossed}
use Rattle.asset_chains.proofs.SoundLemmas.{no_chain_of}
use Rattle.asset_seats.specs.Seated.{Seated, seat}
use Rattle.asset_marks.specs.Searched.{AreWithin, arrows_along}
use Rattle.asset_marks.proofs.KeyedLemmas.{item_of_arrow, leads_by}
use Rattle.asset_names.specs.declared.operations.Op.{Op}
use Rattle.asset_permits.specs.Descriptors.{Descriptor, covers, same_descriptor, stands}
use Rattle.asset_permits.specs.Valid.{Parts, parts_of, descriptors_of, is_used, IsNamed, IsValid, PermitTable, IsTied}
use Rattle.asset_permits.specs.Changes.{Shrinks}
use Rattle.asset_permits.proofs.SeatLemmas.{home_along, seated_by, used_same}
use Rattle.asset_permits.proofs.DropLemmas.{cleared_shrinks, cleared_gone, cleared_kept}
use Rattle.asset_permits.proofs.SearchLemmas.{has_across}
use Rattle.asset_permits.proofs.SlotLemmas.{IsRidOf, key_of_standing, stands_at, any_has, key_of_any}
use Rattle.asset_permits.proofs.CopyLemmas.{any_cut, no_cuts}
use Rattle.asset_permits.specs.declared.copying.Cut.{Cut}
use Rattle.asset_permits.specs.Copies.{cut_of, copy_of, cuts_on, cuts_in, gives_on, given_by, copies, TakersSit}
use Rattle.std.proofs.lemmas.List.Folds.{list_any-append}
use Rattle.asset_names.proofs.ListLemmas.{any_map}
use Rattle.asset_names.specs.declared.names.Ob.{Ob}
use Rattle.asset_names.specs.InSet.{in_set}
use Rattle.asset_names.proofs.Common.{both_follow, some_of}
use Rattle.std.specs.List.{list_any}

-- the table, by its parts
abbrev pub table_of : Crossed Descriptor → ℕ → PermitTable
table_of permits size = record { permits = permits; size = size }

pub tied_inside : (permits : Crossed Descriptor) (size : ℕ) (table : PermitTable) (seats : Seated) → table_of permits size ≡ table → IsTied table seats → IsValid (parts_of permits seats) size
tied_inside permits size table seats is tied = subst (λ (v : PermitTable). IsTied v seats) (sym is) tied

-- ---- whether a permit stands
-- a permit stands at a key in the chain of its giver, and in that of its taker
found_stands : (permits : Slab Descriptor) (e : Descriptor) (result : Option ℕ) → IfSome result (λ k. get permits k ≡ Some e) → (stands (descriptors_of permits) e ≡ true → IfNone result ⊥) → is_some result ≡ stands (descriptors_of permits) e
found_stands permits e None found absent = sym (false_from_ne_true _ (λ there. absent there))
found_stands permits e (Some k) found absent = sym (stands_at permits k e found)

never : (result : Option ℕ) (p : Type 0) → IfNone result p → (p → ⊥) → IfNone result ⊥
never None p h refuted = refuted h
never (Some k) p h refuted = tt

pub found_given : (p : Parts) (size : ℕ) → IsValid p size → (e : Descriptor) (from : ℕ) → ((c : ℕ) → seat p.seats c ≡ Some (record { 0 = e.giver }) → c ≡ from) → (result : Option ℕ) → IfSome result (λ k. get p.permits k ≡ Some e)
    → IfNone result ((k : ℕ) → home_of p.along k ≡ Some from → get p.permits k ≡ Some e → ⊥) → is_some result ≡ stands (descriptors_of p.permits) e
found_given p size valid e from alone result found absent =
    found_stands p.permits e result found (λ there. never result _ absent (λ none.
    let at = key_of_standing p.permits e there in
    let across = has_across p size valid at.0 e at.1 in
    none at.0 (across.home ∙ ap Some (alone across.from across.giver)) at.1))

pub found_taken : (p : Parts) (size : ℕ) → IsValid p size → (e : Descriptor) (to : ℕ) → ((c : ℕ) → seat p.seats c ≡ Some (record { 0 = e.taker }) → c ≡ to) → (result : Option ℕ) → IfSome result (λ k. get p.permits k ≡ Some e)
    → IfNone result ((k : ℕ) → home_of p.across k ≡ Some to → get p.permits k ≡ Some e → ⊥) → is_some result ≡ stands (descriptors_of p.permits) e
found_taken p size valid e to alone result found absent =
    found_stands p.permits e result found (λ there. never result _ absent (λ none.
    let at = key_of_standing p.permits e there in
    let across = has_across p size valid at.0 e at.1 in
    none at.0 (across.end ∙ ap Some (alone across.to across.taker)) at.1))

-- a seat that is a home has its mark
marked_end : (p : Parts) (size : ℕ) → IsValid p size → (k c : ℕ) → home_of p.across k ≡ Some c → c < size
marked_end p size valid k c home =
    let found = some_of (get p.permits k) (valid.seated.across k ∙ ap is_some home) in
    (valid.within c (ap is_some (valid.taken k c found.0 found.1 home))).2

marked_home : (p : Parts) (size : ℕ) → IsValid p size → (k c : ℕ) → home_of p.along k ≡ Some c → c < size
marked_home p size valid k c home =
    let found = some_of (get p.permits k) (valid.seated.along k ∙ ap is_some home) in
    (valid.within c (ap is_some (valid.given k c found.0 found.1 home))).2

-- so the arrows of the permits that cover an operation go between marks, forwards and backwards
pub forward_within : (p : Parts) (size : ℕ) → IsValid p size → (x : ℕ) (op : Op) → AreWithin (arrows_along (covers x op) p.permits p.along p.across) size
forward_within p size valid x op u t arrow =
    let found = item_of_arrow (covers x op) p.permits p.along p.across u t arrow in
    let item = leads_by (covers x op) _ _ t found.2 in
    marked_end p size valid found.0 t item.3

pub backward_within : (p : Parts) (size : ℕ) → IsValid p size → (x : ℕ) (op : Op) → AreWithin (arrows_along (covers x op) p.permits p.across p.along) size
backward_within p size valid x op u t arrow =
    let found = item_of_arrow (covers x op) p.permits p.across p.along u t arrow in
    let item = leads_by (covers x op) _ _ t found.2 in
    marked_home p size valid found.0 t item.3

-- ---- a new table
pub valid_nothing : (permits : Crossed Descriptor) (seats : Seated) (size : ℕ) → permits.items.slots ≡ [] → IsCrossed permits → ((c : ℕ) → seat seats c ≡ None) → IsValid (parts_of permits seats) size
valid_nothing permits seats size none crossed nobody = record {
  seated = seated_by permits seats crossed;
  given = λ k c d there home. cc (sym there ∙ nothing k);
  taken = λ k c d there home. cc (sym there ∙ nothing k);
  single = λ j k d here there. cc (sym there ∙ nothing k);
  within = λ c sat. absurd (true≢false (sym sat ∙ ap is_some (nobody c)));
} where
  nothing : (k : ℕ) → get permits.items k ≡ None
  nothing k = ap (λ (l : List (Option Descriptor)). slice_index_or l k None) none

-- no seat is used
pub unused_nothing : (permits : Crossed Descriptor) → permits.rows.chains ≡ [] → permits.columns.chains ≡ [] → (c : ℕ) → is_used permits.rows permits.columns c ≡ false
unfolding is_used
unused_nothing permits rows columns c = λ i. is_some (first_of (no_chain_of permits.rows rows c i)) || is_some (first_of (no_chain_of permits.columns columns c i))

pub nothing_stands : (permits : Slab Descriptor) → permits.slots ≡ [] → descriptors_of permits ≡ []
unfolding descriptors_of
nothing_stands permits none = ap (λ (l : List (Option Descriptor)). filter_map (λ (slot : Option Descriptor). slot) l) none

pub slots_stand : (permits more : Slab Descriptor) → more.slots ≡ permits.slots → descriptors_of more ≡ descriptors_of permits
unfolding descriptors_of
slots_stand permits more same = ap (λ (l : List (Option Descriptor)). filter_map (λ (slot : Option Descriptor). slot) l) same

-- ---- there is more room, and nothing else changed
pub slot_same : (permits more : Slab Descriptor) → more.slots ≡ permits.slots → (k : ℕ) → get more k ≡ get permits k
slot_same permits more same k = ap (λ (l : List (Option Descriptor)). slice_index_or l k None) same

pub used_grown : (permits more : Crossed Descriptor) → IsGrown permits more → (c : ℕ) → is_used more.rows more.columns c ≡ is_used permits.rows permits.columns c
used_grown permits more grown c = used_same permits.rows permits.columns more.rows more.columns c (grown.chains Row c) (grown.chains Column c)

pub valid_grown : (permits more : Crossed Descriptor) (seats : Seated) (size most : ℕ) → IsValid (parts_of permits seats) size → IsGrown permits more → size ≤ most → IsValid (parts_of more seats) most
valid_grown permits more seats size most valid grown bound = record {
  seated = record {
    along = λ k. ap is_some (slot_same permits.items more.items grown.items k) ∙ valid.seated.along k ∙ sym (ap is_some (grown.homes Row k));
    across = λ k. ap is_some (slot_same permits.items more.items grown.items k) ∙ valid.seated.across k ∙ sym (ap is_some (grown.homes Column k));
  };
  given = λ k c d there home. valid.given k c d (sym (slot_same permits.items more.items grown.items k) ∙ there) (sym (grown.homes Row k) ∙ home);
  taken = λ k c d there home. valid.taken k c d (sym (slot_same permits.items more.items grown.items k) ∙ there) (sym (grown.homes Column k) ∙ home);
  single = λ j k d here there. valid.single j k d (sym (slot_same permits.items more.items grown.items j) ∙ here) (sym (slot_same permits.items more.items grown.items k) ∙ there);
  within = λ c sat. let old = valid.within c sat in (omega (arith, old.0, grown.many Row), omega (arith, old.1, grown.many Column), omega (arith, old.2, bound));
}

-- ---- one more permit
module _ (permits more : Crossed Descriptor) (seats : Seated) (size : ℕ) (d : Descriptor) (key from to : ℕ)
    (valid : IsValid (parts_of permits seats) size) (giver_sits : seat seats from ≡ Some (record { 0 = d.giver })) (taker_sits : seat seats to ≡ Some (record { 0 = d.taker }))
    (put : Updates permits.items more.items key (Some d)) (none : stands (descriptors_of permits.items) d ≡ false)
    (change : Joins from key permits.rows more.rows) (change_across : Joins to key permits.columns more.columns) (crossed : IsCrossed more) where
  pub valid_added : IsValid (parts_of more seats) size
  valid_added = record {
    seated = seated_by more seats crossed;
    given = given;
    taken = taken;
    single = single;
    within = λ c sat. let old = valid.within c sat in (omega (arith, old.0, change.many), omega (arith, old.1, change_across.many), old.2);
  } where
    given : IsNamed (λ (d : Descriptor). d.giver) more.items more.rows seats
    given k c e there home = elim (cases_eq k key) [
      | inl here ↦
          let same : Some e ≡ Some d = sym there ∙ ap (get more.items) here ∙ put.changed in
          let seat_is : Some c ≡ Some from = sym home ∙ ap (home_of more.rows) here ∙ change.home in
          let at : c ≡ from = cc seat_is in
          let is : e ≡ d = cc same in
          ap (seat seats) at ∙ giver_sits ∙ (λ i. Some (record { 0 = (sym is i).giver }))
      | inr other ↦ valid.given k c e (sym (put.others k other) ∙ there) (sym (change.homes k other) ∙ home)
    ]

    taken : IsNamed (λ (d : Descriptor). d.taker) more.items more.columns seats
    taken k c e there home = elim (cases_eq k key) [
      | inl here ↦
          let same : Some e ≡ Some d = sym there ∙ ap (get more.items) here ∙ put.changed in
          let seat_is : Some c ≡ Some to = sym home ∙ ap (home_of more.columns) here ∙ change_across.home in
          let at : c ≡ to = cc seat_is in
          let is : e ≡ d = cc same in
          ap (seat seats) at ∙ taker_sits ∙ (λ i. Some (record { 0 = (sym is i).taker }))
      | inr other ↦ valid.taken k c e (sym (put.others k other) ∙ there) (sym (change_across.homes k other) ∙ home)
    ]

    twice : (k : ℕ) (e : Descriptor) → (k ≡ key → ⊥) → get more.items k ≡ Some e → get more.items key ≡ Some e → ⊥
    twice k e other there here =
        let same : Some e ≡ Some d = sym here ∙ put.changed in
        true≢false (sym (stands_at permits.items k d (sym (put.others k other) ∙ there ∙ same)) ∙ none)

    single : (j k : ℕ) (e : Descriptor) → get more.items j ≡ Some e → get more.items k ≡ Some e → j ≡ k
    single j k e here there = elim (cases_eq j key) [
      | inl first ↦ elim (cases_eq k key) [
        | inl second ↦ first ∙ sym second
        | inr other ↦ absurd (twice k e other there (ap (get more.items) (sym first) ∙ here))
      ]
      | inr apart ↦ elim (cases_eq k key) [
        | inl second ↦ absurd (twice j e apart here (ap (get more.items) (sym second) ∙ there))
        | inr other ↦ valid.single j k e (sym (put.others j apart) ∙ here) (sym (put.others k other) ∙ there)
      ]
    ]

-- ---- the permits of one transaction are gone
pub rid_of : (old mid new : Crossed Descriptor) (seats : Seated) (size : ℕ) (t : Txn) (s : ℕ) → IsValid (parts_of old seats) size → seat seats s ≡ Some t → ((c : ℕ) → seat seats c ≡ Some t → c ≡ s)
    → Shrinks old mid → ((k : ℕ) → home_of mid.rows k ≡ Some s → ⊥) → ((k : ℕ) → (home_of old.rows k ≡ Some s → ⊥) → get mid.items k ≡ get old.items k)
    → Shrinks mid new → IsCrossed new → ((k : ℕ) → home_of new.columns k ≡ Some s → ⊥) → ((k : ℕ) → (home_of mid.columns k ≡ Some s → ⊥) → get new.items k ≡ get mid.items k) → IsRidOf t.0 old.items new.items
rid_of old mid new seats size t s valid sat alone first gone kept second crossed gone_across kept_across = record {
  still = λ k d there. first.permits k d (second.permits k d there);
  begins = λ k d there.
      let home = some_of (home_of new.rows k) (crossed.placed Row k ∙ ap is_some there) in
      let old_there = first.permits k d (second.permits k d there) in
      ne_eqb d.giver t.0 (λ is.
      let at = valid.given k home.0 d old_there (first.homes Row k home.0 (second.homes Row k home.0 home.1)) in
      let here = alone home.0 (at ∙ (λ i. Some (record { 0 = is i }))) in
      gone k (second.homes Row k s (home.1 ∙ ap Some here)));
  across = λ k d there.
      let end = some_of (home_of new.columns k) (crossed.placed Column k ∙ ap is_some there) in
      let old_there = first.permits k d (second.permits k d there) in
      ne_eqb d.taker t.0 (λ is.
      let at = valid.taken k end.0 d old_there (first.homes Column k end.0 (second.homes Column k end.0 end.1)) in
      let here = alone end.0 (at ∙ (λ i. Some (record { 0 = is i }))) in
      gone_across k (end.1 ∙ ap Some here));
  kept = λ k d there giver taker.
      let mid_there : get mid.items k ≡ Some d = kept k (λ home. eqb-false d.giver t.0 giver (named t d.giver (sym (valid.given k s d there home) ∙ sat))) ∙ there in
      kept_across k (λ end. eqb-false d.taker t.0 taker (named t d.taker (sym (valid.taken k s d there (first.homes Column k s end)) ∙ sat))) ∙ mid_there;
} where
  named : (t : Txn) (n : ℕ) → Some (record { 0 = n }) ≡ Some t → n ≡ t.0
  named t n same = let is : record { 0 = n } ≡ t = cc same in ap (λ (u : Txn). u.0) is

-- as its row and its column are cleared
pub cleared_rid : (old mid new : Crossed Descriptor) (seats : Seated) (size : ℕ) (t : Txn) (s : ℕ) → IsValid (parts_of old seats) size → seat seats s ≡ Some t → ((c : ℕ) → seat seats c ≡ Some t → c ≡ s) → IsCrossed old → IsCrossed mid → IsCrossed new
    → Loses (chain_of old.rows s) old mid → Loses (chain_of mid.columns s) mid new → IsRidOf t.0 old.items new.items
cleared_rid old mid new seats size t s valid sat alone crossed crossed_mid crossed_new first second =
    rid_of old mid new seats size t s valid sat alone
    (cleared_shrinks _ old mid first) (cleared_gone Row s old mid crossed first) (cleared_kept Row s old mid crossed first)
    (cleared_shrinks _ mid new second) crossed_new (cleared_gone Column s mid new crossed_mid second) (cleared_kept Column s mid new crossed_mid second)

pub rid_of_nobody : (p : Parts) (size : ℕ) (t : Txn) → IsValid p size → ((c : ℕ) → seat p.seats c ≡ Some t → ⊥) → IsRidOf t.0 p.permits p.permits
rid_of_nobody p size t valid absent = record {
  still = λ k d there. there;
  begins = λ k d there. ne_eqb d.giver t.0 (λ is. let across = has_across p size valid k d there in absent across.from (across.giver ∙ (λ i. Some (record { 0 = is i }))));
  across = λ k d there. ne_eqb d.taker t.0 (λ is. let across = has_across p size valid k d there in absent across.to (across.taker ∙ (λ i. Some (record { 0 = is i }))));
  kept = λ k d there giver taker. there;
}

-- ---- what is copied of the permits of a seat
pub cut_by_seat : (p : Parts) (size : ℕ) → IsValid p size → (giver : Txn) (from : ℕ) → seat p.seats from ≡ Some giver → ((c : ℕ) → seat p.seats c ≡ Some giver → c ≡ from) → (x : Ob) (before after : List Cut)
    → ((test : Cut → Bool) → list_any test before ≡ true → list_any test after ≡ true)
    → ((test : Cut → Bool) → list_any test after ≡ true → (list_any test before ≡ true) ⊎ ((k : ℕ) × (d : Descriptor) × (home_of p.along k ≡ Some from) × (get p.permits k ≡ Some d) × (in_set d.objects x.0 ≡ true) × (test (cut_of x d) ≡ true)))
    → ((test : Cut → Bool) (k : ℕ) (d : Descriptor) → home_of p.along k ≡ Some from → get p.permits k ≡ Some d → in_set d.objects x.0 ≡ true → test (cut_of x d) ≡ true → list_any test after ≡ true)
    → (test : Cut → Bool) → list_any test after ≡ (list_any test before || list_any test (cuts_on giver.0 (descriptors_of p.permits) x))
unfolding gives_on
cut_by_seat p size valid giver from sat alone x before after kept made all test = both_follow _ _ to back where
  passes : Descriptor → Bool
  passes d = (eqb d.giver giver.0 && in_set d.objects x.0) && test (cut_of x d)

  on_x : list_any test (cuts_on giver.0 (descriptors_of p.permits) x) ≡ list_any passes (descriptors_of p.permits)
  on_x = any_cut test giver.0 (descriptors_of p.permits) x

  named : (n : ℕ) → Some (record { 0 = n }) ≡ Some giver → n ≡ giver.0
  named n same = let is : record { 0 = n } ≡ giver = cc same in ap (λ (u : Txn). u.0) is

  to : list_any test after ≡ true → (list_any test before || list_any test (cuts_on giver.0 (descriptors_of p.permits) x)) ≡ true
  to h = elim (made test h) [
    | inl old ↦ or_left _ _ old
    | inr one ↦
        let of_giver = named one.1.giver (sym (valid.given one.0 from one.1 one.3 one.2) ∙ sat) in
        or_right (list_any test before) _ (on_x ∙ any_has passes p.permits one.0 one.1 one.3 (and_from _ _ (and_from _ _ (eq-eqb one.1.giver giver.0 of_giver) one.4) one.5))
  ]

  back : (list_any test before || list_any test (cuts_on giver.0 (descriptors_of p.permits) x)) ≡ true → list_any test after ≡ true
  back h = elim (or_cases _ _ h) [
    | inl old ↦ kept test old
    | inr new ↦
        let found = key_of_any passes p.permits (sym on_x ∙ new) in
        let both = and_parts _ _ found.3 in
        let parts = and_parts _ _ both.0 in
        let home = home_along p found.0 found.1 valid.seated found.2 in
        let at : seat p.seats home.0 ≡ Some giver = valid.given found.0 home.0 found.1 found.2 home.1 ∙ (λ i. Some (record { 0 = eqb-true found.1.giver giver.0 parts.0 i })) in
        all test found.0 found.1 (home.1 ∙ ap Some (alone home.0 at)) found.2 parts.1 both.1
  ]

-- of one who has no seat, nothing is copied
pub no_cuts_by : (p : Parts) (size : ℕ) → IsValid p size → (giver : Txn) → ((c : ℕ) → seat p.seats c ≡ Some giver → ⊥) → (test : Cut → Bool) (x : Ob) → list_any test (cuts_on giver.0 (descriptors_of p.permits) x) ≡ false
unfolding gives_on
no_cuts_by p size valid giver absent test x =
    any_cut test giver.0 (descriptors_of p.permits) x
    ∙ false_from_ne_true _ (λ h.
    let found = key_of_any (λ (d : Descriptor). (eqb d.giver giver.0 && in_set d.objects x.0) && test (cut_of x d)) p.permits h in
    let parts = and_parts _ _ (and_parts _ _ found.3).0 in
    let home = home_along p found.0 found.1 valid.seated found.2 in
    absent home.0 (valid.given found.0 home.0 found.1 found.2 home.1 ∙ (λ i. Some (record { 0 = eqb-true found.1.giver giver.0 parts.0 i }))))

-- of one who has no seat, nothing is copied
pub no_copies : (p : Parts) (size : ℕ) → IsValid p size → (giver : Txn) (receiver : ℕ) (moved : List Ob) → ((c : ℕ) → seat p.seats c ≡ Some giver → ⊥) → (e : Descriptor) → stands (copies giver.0 receiver (descriptors_of p.permits) moved) e ≡ false
unfolding stands copies given_by
no_copies p size valid giver receiver moved absent e =
    any_map (λ (d : Descriptor). same_descriptor d e) (copy_of receiver) (cuts_in giver.0 (descriptors_of p.permits) moved)
    ∙ no_cuts (λ (cut : Cut). same_descriptor (copy_of receiver cut) e) giver.0 (descriptors_of p.permits) moved (no_cuts_by p size valid giver absent (λ (cut : Cut). same_descriptor (copy_of receiver cut) e))

-- each for whom something is copied takes a permit
taker_of_cut : (permits : Slab Descriptor) (u giver : ℕ) (moved : List Ob) → list_any (λ (cut : Cut). eqb cut.taker.0 u) (cuts_in giver (descriptors_of permits) moved) ≡ true → (k : ℕ) × (d : Descriptor) × (get permits k ≡ Some d) × (d.taker ≡ u)
unfolding cuts_in cut_of
taker_of_cut permits u giver [] h = absurd (true≢false (sym h))
taker_of_cut permits u giver (x ∷ moved) h =
    elim (or_cases _ _ (sym (list_any-append (λ (cut : Cut). eqb cut.taker.0 u) (cuts_on giver (descriptors_of permits) x) (flat_map (cuts_on giver (descriptors_of permits)) moved)) ∙ h)) [
      | inl first ↦
          let found = key_of_any (λ (d : Descriptor). gives_on giver x d && eqb d.taker u) permits (sym (any_cut (λ (cut : Cut). eqb cut.taker.0 u) giver (descriptors_of permits) x) ∙ first) in
          (found.0, found.1, found.2, eqb-true found.1.taker u (and_parts _ _ found.3).1)
      | inr more ↦ taker_of_cut permits u giver moved more
    ]

pub takers_sit : (p : Parts) (size : ℕ) → IsValid p size → (giver : ℕ) (moved : List Ob) (cuts : List Cut) → ((test : Cut → Bool) → list_any test cuts ≡ list_any test (cuts_in giver (descriptors_of p.permits) moved)) → TakersSit p.seats cuts
takers_sit p size valid giver moved cuts same u h =
    let found = taker_of_cut p.permits u.0 giver moved (sym (same (λ (cut : Cut). eqb cut.taker.0 u.0)) ∙ h) in
    let across = has_across p size valid found.0 found.1 found.2 in
    (across.to, across.taker ∙ (λ i. Some (record { 0 = found.3 i })))
