-- What a call makes of the table of dependencies.
use Rattle.std.proofs.Common.{◌≡◌, ℕ, ◌<◌, ◌≤◌, Bool, true, false, cond, eqb, not, ◌&&◌, ◌||◌, List, [], ◌∷◌, ◌++◌, filter_map, Option, Some, None, is_some, refl, sym, ap, subst, ◌∙◌, arith, inl, inr}
use Rattle.std.specs.Prelude.{slice_index_or, option_map, IfSome, IfNone}
use Rattle.std.proofs.lemmas.Bool.{or_left, and_from, and_parts, eqb-true, eqb-false, eq-eqb, ne_eqb, true≢false, false≢true, cases_eq}
use Rattle.slab.specs.Slab.{Slab, get, values, Updates}
use Rattle.asset_names.specs.declared.names.Txn.{Txn}
use Rattle.asset_names.specs.declared.steps.Kind.{Kind}
use Rattle.asset_names.specs.Arrows.{lists, has_arrow}
use Rattle.asset_names.specs.Paths.{same_kind}
use Rattle.asset_names.proofs.Common.{eqb-flip, some_of, both_follow}
use Rattle.asset_chains.specs.Chained.{home_of}
use Rattle.asset_chains.specs.declared.side.Side.TheVariants.{Row, Column}
use Rattle.asset_chains.specs.Crossed.{Crossed, IsGrown, Joins, IsCrossed}
use Rattle.asset_chains.proofs.ClearLemmas.{IsCleared}
use Rattle.asset_seats.specs.Seated.{Seated, seat}
use Rattle.asset_marks.specs.Marked.{Met}
use Rattle.asset_marks.proofs.SlotLemmas.{any_has, key_of_any, any_added, any_dropped, IsRid}
use Rattle.asset_deps.specs.Dependencies.{Dependency, DepTable, arrows_of}
use Rattle.asset_deps.specs.Valid.{Parts, parts, dependencies_of, names_of, marked_of, IsPlaced, IsNamed, IsWithin, IsValid, LinkTable, dependencies_in, marked_in, IsTied, HasRoom}
use Rattle.asset_deps.proofs.KindLemmas.{joins, arrow_of}
use Rattle.asset_deps.proofs.LinkLemmas.{kind_is, kind_self}
use Rattle.asset_deps.proofs.NamedLemmas.{has_across, joins_parts, joins_from, joins_source, joins_dependent}
use Rattle.asset_deps.proofs.SeatLemmas.{named_seat, marked_seat, seat_marked, marked_same, nobody_marked, nothing_marked, names_same, taken_before}

-- the parts of a table
abbrev pub parts_of : Crossed Dependency → Seated → Parts
parts_of links seats = parts links.items links.rows links.columns seats

-- the table, by its parts
abbrev pub link_table : Crossed Dependency → ℕ → Met → LinkTable
link_table links size marked = record { links = links; size = size; marked = marked }

pub tied_inside : (links : Crossed Dependency) (size : ℕ) (marked : Met) (table : LinkTable) (seats : Seated) → link_table links size marked ≡ table → IsTied table seats → IsValid (parts_of links seats) size marked
tied_inside links size marked table seats is tied = subst (λ (v : LinkTable). IsTied v seats) (sym is) tied

-- exactly the dependencies have homes
placed_by : (links : Crossed Dependency) → IsCrossed links → IsPlaced links.items links.rows links.columns
placed_by links crossed = record { along = λ k. sym (crossed.placed Row k); across = λ k. sym (crossed.placed Column k) }

-- the dependencies of a kind
abbrev pub of_kind : Kind → Dependency → Bool
of_kind kind d = same_kind kind d.kind

-- a dependency of a kind stands between two where an arrow leads
pub link_of_arrow : (links : Slab Dependency) (kind : Kind) (u v : ℕ) → has_arrow (arrows_of kind (dependencies_of links)) u v ≡ true → (k : ℕ) × (get links k ≡ Some (record { kind = kind; source = u; dependent = v }))
unfolding dependencies_of
link_of_arrow links kind u v arrow =
    let found = key_of_any (joins (of_kind kind) u v) links (sym (arrow_of kind (values links) u v) ∙ arrow) in
    let parts = joins_parts (of_kind kind) u v found.1 found.3 in
    let is = kind_is kind found.1.kind parts.0 in
    (found.0, found.2 ∙ (λ i. Some (record { kind = sym is i; source = parts.1 i; dependent = parts.2 i })))

pub arrow_of_link : (links : Slab Dependency) (kind : Kind) (u v k : ℕ) → get links k ≡ Some (record { kind = kind; source = u; dependent = v }) → has_arrow (arrows_of kind (dependencies_of links)) u v ≡ true
unfolding dependencies_of
arrow_of_link links kind u v k there =
    arrow_of kind (values links) u v ∙ any_has (joins (of_kind kind) u v) links k (record { kind = kind; source = u; dependent = v }) there (joins_from (of_kind kind) u v (record { kind = kind; source = u; dependent = v }) (kind_self kind) refl refl)

-- who depends or is depended on is enrolled
pub ends_enrolled : (p : Parts) (size : ℕ) (marked : Met) → IsValid p size marked → (kind : Kind) (u v : ℕ) → has_arrow (arrows_of kind (dependencies_of p.links)) u v ≡ true → (lists (names_of p.seats) u ≡ true) × (lists (names_of p.seats) v ≡ true)
ends_enrolled p size marked valid kind u v arrow =
    let found = link_of_arrow p.links kind u v arrow in
    let across = has_across p size marked valid found.0 (record { kind = kind; source = u; dependent = v }) found.1 in
    (named_seat p.seats across.from (record { 0 = u }) across.source, named_seat p.seats across.to (record { 0 = v }) across.dependent)

-- ---- whether a dependency stands
no_arrow : (links : Slab Dependency) (kind : Kind) (u v : ℕ) → ((k : ℕ) → get links k ≡ Some (record { kind = kind; source = u; dependent = v }) → ⊥) → has_arrow (arrows_of kind (dependencies_of links)) u v ≡ false
no_arrow links kind u v absent = go (has_arrow (arrows_of kind (dependencies_of links)) u v) refl where
  go : (b : Bool) → has_arrow (arrows_of kind (dependencies_of links)) u v ≡ b → b ≡ false
  go true is = let found = link_of_arrow links kind u v is in absurd (absent found.0 found.1)
  go false is = refl

module _ (p : Parts) (size : ℕ) (marked : Met) (valid : IsValid p size marked) (kind : Kind) (a b : Txn) where
  abbrev sought : Dependency
  sought = record { kind = kind; source = a.0; dependent = b.0 }

  -- what a walk along a chain has found
  pub found_source : (from : ℕ) → ((c : ℕ) → seat p.seats c ≡ Some a → c ≡ from) → (d : Dependency) → d ≡ sought → (result : Bool) → (result ≡ true → (k : ℕ) × (get p.links k ≡ Some d)) → (result ≡ false → (k : ℕ) → home_of p.along k ≡ Some from → get p.links k ≡ Some d → ⊥)
      → result ≡ has_arrow (arrows_of kind (dependencies_of p.links)) a.0 b.0
  found_source from alone d is true found absent = let there = found refl in sym (arrow_of_link p.links kind a.0 b.0 there.0 (there.1 ∙ ap Some is))
  found_source from alone d is false found absent =
      sym (no_arrow p.links kind a.0 b.0 (λ k there.
      let across = has_across p size marked valid k sought there in
      absent refl k (across.home ∙ ap Some (alone across.from across.source)) (there ∙ ap Some (sym is))))

  pub found_dependent : (to : ℕ) → ((c : ℕ) → seat p.seats c ≡ Some b → c ≡ to) → (d : Dependency) → d ≡ sought → (result : Bool) → (result ≡ true → (k : ℕ) × (get p.links k ≡ Some d)) → (result ≡ false → (k : ℕ) → home_of p.across k ≡ Some to → get p.links k ≡ Some d → ⊥)
      → result ≡ has_arrow (arrows_of kind (dependencies_of p.links)) a.0 b.0
  found_dependent to alone d is true found absent = let there = found refl in sym (arrow_of_link p.links kind a.0 b.0 there.0 (there.1 ∙ ap Some is))
  found_dependent to alone d is false found absent =
      sym (no_arrow p.links kind a.0 b.0 (λ k there.
      let across = has_across p size marked valid k sought there in
      absent refl k (across.end ∙ ap Some (alone across.to across.dependent)) (there ∙ ap Some (sym is))))

-- ---- a new table
pub valid_nothing : (links : Crossed Dependency) (seats : Seated) (size : ℕ) (marked : Met) → links.items.slots ≡ [] → IsCrossed links → ((c : ℕ) → seat seats c ≡ None) → marked.nodes ≡ [] → IsValid (parts_of links seats) size marked
unfolding lists
valid_nothing links seats size marked none crossed nobody unmarked = record {
  placed = placed_by links crossed;
  sources = λ k c d there home. cc (sym there ∙ nothing k);
  dependents = λ k c d there home. cc (sym there ∙ nothing k);
  within = λ c sat. absurd (true≢false (sym sat ∙ ap is_some (nobody c)));
  taken = λ c listed. absurd (true≢false (sym listed ∙ ap (λ (l : List ℕ). lists l c) unmarked ∙ nobody_listed c));
  single = λ j k d here there. cc (sym there ∙ nothing k);
} where
  nobody_listed : (c : ℕ) → lists [] c ≡ false
  nobody_listed c = refl

  nothing : (k : ℕ) → get links.items k ≡ None
  nothing k = ap (λ (l : List (Option Dependency)). slice_index_or l k None) none

pub nothing_stands : (links : Slab Dependency) → links.slots ≡ [] → dependencies_of links ≡ []
unfolding dependencies_of
nothing_stands links none = ap (λ (l : List (Option Dependency)). filter_map (λ (slot : Option Dependency). slot) l) none

pub slots_stand : (links more : Slab Dependency) → more.slots ≡ links.slots → dependencies_of more ≡ dependencies_of links
unfolding dependencies_of
slots_stand links more same = ap (λ (l : List (Option Dependency)). filter_map (λ (slot : Option Dependency). slot) l) same

-- ---- there is more room, and somebody sat down, or nobody
module _ (links more : Crossed Dependency) (seats new : Seated) (size most : ℕ) (marked grown : Met) (valid : IsValid (parts_of links seats) size marked) (grows : IsGrown links more) (nodes : grown.nodes ≡ marked.nodes) where
  slot_same : (k : ℕ) → get more.items k ≡ get links.items k
  slot_same k = ap (λ (l : List (Option Dependency)). slice_index_or l k None) grows.items

  pub valid_grown : ((c : ℕ) (t : Txn) → seat seats c ≡ Some t → seat new c ≡ Some t) → IsWithin more.rows more.columns new most grown.size → IsValid (parts_of more new) most grown
  valid_grown kept within = record {
    placed = record {
      along = λ k. ap is_some (slot_same k) ∙ valid.placed.along k ∙ sym (ap is_some (grows.homes Row k));
      across = λ k. ap is_some (slot_same k) ∙ valid.placed.across k ∙ sym (ap is_some (grows.homes Column k));
    };
    sources = λ k c d there home. kept c (record { 0 = d.source }) (valid.sources k c d (sym (slot_same k) ∙ there) (sym (grows.homes Row k) ∙ home));
    dependents = λ k c d there home. kept c (record { 0 = d.dependent }) (valid.dependents k c d (sym (slot_same k) ∙ there) (sym (grows.homes Column k) ∙ home));
    within = within;
    taken = λ c listed. let t = some_of (seat seats c) (valid.taken c (ap (λ (l : List ℕ). lists l c) (sym nodes) ∙ listed)) in ap is_some (kept c t.0 t.1);
    single = λ j k d here there. valid.single j k d (sym (slot_same j) ∙ here) (sym (slot_same k) ∙ there);
  }

  -- the seats that were there have their room still
  pub within_grown : ((c : ℕ) → is_some (seat new c) ≡ true → is_some (seat seats c) ≡ true) → size ≤ most → marked.size ≤ grown.size → IsWithin more.rows more.columns new most grown.size
  within_grown were bound marks c sat =
      let old = valid.within c (were c sat) in
      (omega (arith, old.0, grows.many Row), omega (arith, old.1, grows.many Column), omega (arith, old.2, bound), omega (arith, old.3, marks))

-- there is more room, and nobody sat down
pub valid_roomier : (links more : Crossed Dependency) (seats : Seated) (size most : ℕ) (marked grown : Met) → IsValid (parts_of links seats) size marked → IsGrown links more → grown.nodes ≡ marked.nodes → size ≤ most → marked.size ≤ grown.size → IsValid (parts_of more seats) most grown
valid_roomier links more seats size most marked grown valid grows nodes bound marks =
    valid_grown links more seats seats size most marked grown valid grows nodes (λ c t sat. sat) (within_grown links more seats seats size most marked grown valid grows nodes (λ c some. some) bound marks)

-- who sat before sits still
pub sits_still : (s : ℕ) (t : Txn) (old new : Seated) → seat old s ≡ None → ((c : ℕ) → seat new c ≡ cond (eqb c s) (Some t) (seat old c)) → (c : ℕ) (u : Txn) → seat old c ≡ Some u → seat new c ≡ Some u
sits_still s t old new free sits c u sat = sits c ∙ ap (λ b. cond b (Some t) (seat old c)) (ne_eqb c s (λ is. cc (sym free ∙ ap (seat old) (sym is) ∙ sat))) ∙ sat

-- ---- one more dependency
module _ (links more : Crossed Dependency) (seats : Seated) (size : ℕ) (marked : Met) (d : Dependency) (key from to : ℕ) (valid : IsValid (parts_of links seats) size marked)
    (source : seat seats from ≡ Some (record { 0 = d.source })) (dependent : seat seats to ≡ Some (record { 0 = d.dependent })) (put : Updates links.items more.items key (Some d)) (on : Joins from key links.rows more.rows) (back : Joins to key links.columns more.columns) (crossed : IsCrossed more) (new : (k : ℕ) → get links.items k ≡ Some d → ⊥) where
  pub valid_added : IsValid (parts_of more seats) size marked
  valid_added = record {
    placed = placed_by more crossed;
    sources = sources;
    dependents = dependents;
    within = λ c sat. let old = valid.within c sat in (omega (arith, old.0, on.many), omega (arith, old.1, back.many), old.2, old.3);
    taken = valid.taken;
    single = single;
  } where
    sources : IsNamed (λ (d : Dependency). d.source) more.items more.rows seats
    sources k c e there home = elim (cases_eq k key) [
      | inl here ↦
          let same : Some e ≡ Some d = sym there ∙ ap (get more.items) here ∙ put.changed in
          let seat_is : Some c ≡ Some from = sym home ∙ ap (home_of more.rows) here ∙ on.home in
          let at : c ≡ from = cc seat_is in
          let is : e ≡ d = cc same in
          ap (seat seats) at ∙ source ∙ (λ i. Some (record { 0 = (sym is i).source }))
      | inr other ↦ valid.sources k c e (sym (put.others k other) ∙ there) (sym (on.homes k other) ∙ home)
    ]

    dependents : IsNamed (λ (d : Dependency). d.dependent) more.items more.columns seats
    dependents k c e there home = elim (cases_eq k key) [
      | inl here ↦
          let same : Some e ≡ Some d = sym there ∙ ap (get more.items) here ∙ put.changed in
          let seat_is : Some c ≡ Some to = sym home ∙ ap (home_of more.columns) here ∙ back.home in
          let at : c ≡ to = cc seat_is in
          let is : e ≡ d = cc same in
          ap (seat seats) at ∙ dependent ∙ (λ i. Some (record { 0 = (sym is i).dependent }))
      | inr other ↦ valid.dependents k c e (sym (put.others k other) ∙ there) (sym (back.homes k other) ∙ home)
    ]

    twice : (k : ℕ) (e : Dependency) → (k ≡ key → ⊥) → get more.items k ≡ Some e → get more.items key ≡ Some e → ⊥
    twice k e other there here = let same : Some e ≡ Some d = sym here ∙ put.changed in new k (sym (put.others k other) ∙ there ∙ same)

    single : (j k : ℕ) (e : Dependency) → get more.items j ≡ Some e → get more.items k ≡ Some e → j ≡ k
    single j k e here there = elim (cases_eq j key) [
      | inl first ↦ elim (cases_eq k key) [
        | inl second ↦ first ∙ sym second
        | inr other ↦ absurd (twice k e other there (ap (get more.items) (sym first) ∙ here))
      ]
      | inr apart ↦ elim (cases_eq k key) [
        | inl second ↦ absurd (twice j e apart here (ap (get more.items) (sym second) ∙ there))
        | inr other ↦ valid.single j k e (sym (put.others j apart) ∙ here) (sym (put.others k other) ∙ there)
      ]
    ]

pub arrow_added : (links more : Slab Dependency) (key : ℕ) (kind : Kind) (a b : ℕ) → get links key ≡ None → Updates links more key (Some (record { kind = kind; source = a; dependent = b }))
    → (k : Kind) (u v : ℕ) → has_arrow (arrows_of k (dependencies_of more)) u v ≡ (has_arrow (arrows_of k (dependencies_of links)) u v || same_kind k kind && eqb u a && eqb v b)
unfolding dependencies_of
arrow_added links more key kind a b free put k u v =
    arrow_of k (values more) u v
    ∙ any_added (joins (of_kind k) u v) links more key (record { kind = kind; source = a; dependent = b }) free put
    ∙ (λ i. sym (arrow_of k (values links) u v) i || (same_kind k kind && eqb-flip a u i && eqb-flip b v i))

-- one that stands is not new
pub arrow_again : (ds : List Dependency) (kind : Kind) (a b : ℕ) → has_arrow (arrows_of kind ds) a b ≡ true → (k : Kind) (u v : ℕ) → has_arrow (arrows_of k ds) u v ≡ (has_arrow (arrows_of k ds) u v || same_kind k kind && eqb u a && eqb v b)
arrow_again ds kind a b there k u v = go (same_kind k kind) refl (eqb u a) refl (eqb v b) refl where
  or_none : (x : Bool) → x ≡ (x || false)
  or_none true = refl
  or_none false = refl

  go : (p : Bool) → same_kind k kind ≡ p → (q : Bool) → eqb u a ≡ q → (r : Bool) → eqb v b ≡ r → has_arrow (arrows_of k ds) u v ≡ (has_arrow (arrows_of k ds) u v || p && q && r)
  go true is true first true second =
      let stands : has_arrow (arrows_of k ds) u v ≡ true = (λ i. has_arrow (arrows_of (kind_is k kind is i) ds) (eqb-true u a first i) (eqb-true v b second i)) ∙ there in
      stands ∙ sym (or_left (has_arrow (arrows_of k ds) u v) true stands)
  go true is true first false second = or_none (has_arrow (arrows_of k ds) u v)
  go true is false first r second = or_none (has_arrow (arrows_of k ds) u v)
  go false is q first r second = or_none (has_arrow (arrows_of k ds) u v)

-- ---- a transaction ends
module _ (links mid new : Crossed Dependency) (seats : Seated) (size : ℕ) (marked fewer : Met) (t : Txn) (s : ℕ) (valid : IsValid (parts_of links seats) size marked)
    (sat : seat seats s ≡ Some t) (alone : (c : ℕ) → seat seats c ≡ Some t → c ≡ s) (first : IsCleared Row s links mid) (second : IsCleared Column s mid new) (crossed : IsCrossed new)
    (forgets : (n : ℕ) → lists fewer.nodes n ≡ (lists marked.nodes n && not (eqb n s))) (same_size : fewer.size ≡ marked.size) where
  named : (n : ℕ) → Some (record { 0 = n }) ≡ Some t → n ≡ t.0
  named n same = let is : record { 0 = n } ≡ t = cc same in ap (λ (u : Txn). u.0) is

  pub valid_ended : IsValid (parts_of new seats) size fewer
  valid_ended = record {
    placed = placed_by new crossed;
    sources = λ k c d there home. valid.sources k c d (first.items k d (second.items k d there)) (first.homes Row k c (second.homes Row k c home));
    dependents = λ k c d there home. valid.dependents k c d (first.items k d (second.items k d there)) (first.homes Column k c (second.homes Column k c home));
    within = λ c some.
        let old = valid.within c some in
        (omega (arith, old.0, first.many Row, second.many Row), omega (arith, old.1, first.many Column, second.many Column), old.2, omega (arith, old.3, same_size));
    taken = λ c listed. valid.taken c (and_parts (lists marked.nodes c) (not (eqb c s)) (sym (forgets c) ∙ listed)).0;
    single = λ j k d here there. valid.single j k d (first.items j d (second.items j d here)) (first.items k d (second.items k d there));
  }

  -- and the transaction leaves its seat
  pub valid_left : (left : Seated) → ((c : ℕ) → seat left c ≡ cond (eqb c s) None (seat seats c)) → IsValid (parts_of new left) size fewer
  valid_left left leaves = record {
    placed = placed_by new crossed;
    sources = λ k c d there home. sits c (λ is. first.gone k (second.homes Row k s (home ∙ ap Some is))) ∙ valid_ended.sources k c d there home;
    dependents = λ k c d there home. sits c (λ is. second.gone k (home ∙ ap Some is)) ∙ valid_ended.dependents k c d there home;
    within = λ c some. valid_ended.within c (still_taken c some);
    taken = λ c listed.
        let both = and_parts (lists marked.nodes c) (not (eqb c s)) (sym (forgets c) ∙ listed) in
        ap is_some (sits c (λ is. false≢true (ap not (sym (eq-eqb c s is)) ∙ both.1))) ∙ valid.taken c both.0;
    single = valid_ended.single;
  } where
    sits : (c : ℕ) → (c ≡ s → ⊥) → seat left c ≡ seat seats c
    sits c apart = leaves c ∙ ap (λ b. cond b None (seat seats c)) (ne_eqb c s apart)

    still_taken : (c : ℕ) → is_some (seat left c) ≡ true → is_some (seat seats c) ≡ true
    still_taken c some = go (eqb c s) refl where
      go : (b : Bool) → eqb c s ≡ b → is_some (seat seats c) ≡ true
      go true at = absurd (true≢false (sym some ∙ ap is_some (leaves c ∙ ap (λ b. cond b None (seat seats c)) at)))
      go false at = sym (ap is_some (leaves c ∙ ap (λ b. cond b None (seat seats c)) at)) ∙ some

  rid : IsRid (λ (d : Dependency). d.source) (λ (d : Dependency). d.dependent) t.0 links.items new.items
  rid = record {
    still = λ k d there. first.items k d (second.items k d there);
    begins = λ k d there.
        let home = some_of (home_of new.rows k) (crossed.placed Row k ∙ ap is_some there) in
        ne_eqb d.source t.0 (λ is.
        let at = valid.sources k home.0 d (first.items k d (second.items k d there)) (first.homes Row k home.0 (second.homes Row k home.0 home.1)) in
        let here = alone home.0 (at ∙ (λ i. Some (record { 0 = is i }))) in
        first.gone k (second.homes Row k s (home.1 ∙ ap Some here)));
    across = λ k d there.
        let end = some_of (home_of new.columns k) (crossed.placed Column k ∙ ap is_some there) in
        ne_eqb d.dependent t.0 (λ is.
        let at = valid.dependents k end.0 d (first.items k d (second.items k d there)) (first.homes Column k end.0 (second.homes Column k end.0 end.1)) in
        let here = alone end.0 (at ∙ (λ i. Some (record { 0 = is i }))) in
        second.gone k (end.1 ∙ ap Some here));
    kept = λ k d there source dependent.
        let mid_there : get mid.items k ≡ Some d = first.kept k (λ home. eqb-false d.source t.0 source (named d.source (sym (valid.sources k s d there home) ∙ sat))) ∙ there in
        second.kept k (λ end. eqb-false d.dependent t.0 dependent (named d.dependent (sym (valid.dependents k s d there (first.homes Column k s end)) ∙ sat))) ∙ mid_there;
  }

  pub arrow_ended : (k : Kind) (u v : ℕ) → has_arrow (arrows_of k (dependencies_of new.items)) u v ≡ (has_arrow (arrows_of k (dependencies_of links.items)) u v && not (eqb u t.0) && not (eqb v t.0))
  unfolding dependencies_of
  arrow_ended k u v =
      arrow_of k (values new.items) u v
      ∙ any_dropped (λ (d : Dependency). d.source) (λ (d : Dependency). d.dependent) (joins (of_kind k) u v) t.0 u v links.items new.items (joins_source (of_kind k) u v) (joins_dependent (of_kind k) u v) rid
      ∙ ap (λ b. b && not (eqb u t.0) && not (eqb v t.0)) (sym (arrow_of k (values links.items) u v))

  pub marked_ended : (n : ℕ) → lists (marked_of seats fewer.nodes) n ≡ (lists (marked_of seats marked.nodes) n && not (eqb n t.0))
  marked_ended n = both_follow _ _ to back' where
    to : lists (marked_of seats fewer.nodes) n ≡ true → (lists (marked_of seats marked.nodes) n && not (eqb n t.0)) ≡ true
    to h =
        let found = marked_seat seats fewer.nodes n valid_ended.taken h in
        let both = and_parts (lists marked.nodes found.0) (not (eqb found.0 s)) (sym (forgets found.0) ∙ found.1) in
        let apart : found.0 ≡ s → ⊥ = λ is. false≢true (ap not (sym (eq-eqb found.0 s is)) ∙ both.1) in
        and_from _ _ (seat_marked seats marked.nodes found.0 (record { 0 = n }) found.2 both.0) (ap not (ne_eqb n t.0 (λ is. apart (alone found.0 (found.2 ∙ (λ i. Some (record { 0 = is i })))))))

    back' : (lists (marked_of seats marked.nodes) n && not (eqb n t.0)) ≡ true → lists (marked_of seats fewer.nodes) n ≡ true
    back' h =
        let both = and_parts (lists (marked_of seats marked.nodes) n) (not (eqb n t.0)) h in
        let found = marked_seat seats marked.nodes n valid.taken both.0 in
        let apart : found.0 ≡ s → ⊥ = λ is. false≢true (ap not (sym (eq-eqb n t.0 (named n (sym found.2 ∙ ap (seat seats) is ∙ sat)))) ∙ both.1) in
        seat_marked seats fewer.nodes found.0 (record { 0 = n }) found.2 (forgets found.0 ∙ and_from _ _ found.1 (ap not (ne_eqb found.0 s apart)))

  pub unmarked_ended : (lists marked.nodes s ≡ false → fewer ≡ marked) → lists (marked_of seats marked.nodes) t.0 ≡ false → fewer ≡ marked
  unmarked_ended unchanged absent = unchanged (go (lists marked.nodes s) refl) where
    go : (b : Bool) → lists marked.nodes s ≡ b → b ≡ false
    go true is = absurd (true≢false (sym (seat_marked seats marked.nodes s t sat is) ∙ absent))
    go false is = refl

-- one who is not marked leaves its seat
pub marked_left : (seats left : Seated) (nodes : List ℕ) (s : ℕ) (t : Txn) → seat seats s ≡ Some t → ((c : ℕ) → seat left c ≡ cond (eqb c s) None (seat seats c)) → lists (marked_of seats nodes) t.0 ≡ false → marked_of left nodes ≡ marked_of seats nodes
marked_left seats left nodes s t sat leaves absent =
    marked_same seats left nodes (λ c listed.
    leaves c ∙ ap (λ b. cond b None (seat seats c)) (ne_eqb c s (λ is. true≢false (sym (seat_marked seats nodes s t sat (ap (lists nodes) (sym is) ∙ listed)) ∙ absent))))

-- one who is not enrolled leaves nothing behind
module _ (p : Parts) (size : ℕ) (marked : Met) (valid : IsValid p size marked) (t : Txn) (absent : (c : ℕ) → seat p.seats c ≡ Some t → ⊥) where
  pub no_arrow_of : (k : Kind) (u v : ℕ) → has_arrow (arrows_of k (dependencies_of p.links)) u v ≡ (has_arrow (arrows_of k (dependencies_of p.links)) u v && not (eqb u t.0) && not (eqb v t.0))
  no_arrow_of k u v = go (has_arrow (arrows_of k (dependencies_of p.links)) u v) refl where
    go : (b : Bool) → has_arrow (arrows_of k (dependencies_of p.links)) u v ≡ b → b ≡ (b && not (eqb u t.0) && not (eqb v t.0))
    go true is =
        let found = link_of_arrow p.links k u v is in
        let across = has_across p size marked valid found.0 (record { kind = k; source = u; dependent = v }) found.1 in
        let first = ne_eqb u t.0 (λ same. absent across.from (across.source ∙ (λ i. Some (record { 0 = same i })))) in
        let second = ne_eqb v t.0 (λ same. absent across.to (across.dependent ∙ (λ i. Some (record { 0 = same i })))) in
        λ i. true && not (sym first i) && not (sym second i)
    go false is = refl

  pub no_mark_of : (n : ℕ) → lists (marked_of p.seats marked.nodes) n ≡ (lists (marked_of p.seats marked.nodes) n && not (eqb n t.0))
  no_mark_of n = go (lists (marked_of p.seats marked.nodes) n) (eqb n t.0) refl refl where
    go : (l b : Bool) → lists (marked_of p.seats marked.nodes) n ≡ l → eqb n t.0 ≡ b → l ≡ (l && not b)
    go true true is at = absurd (true≢false (sym is ∙ ap (lists (marked_of p.seats marked.nodes)) (eqb-true n t.0 at) ∙ nobody_marked p.seats marked.nodes t valid.taken absent))
    go true false is at = refl
    go false true is at = refl
    go false false is at = refl

-- what a table shows by name
abbrev pub shown : Seated → LinkTable → DepTable
shown seats table = record { names = names_of seats; dependencies = dependencies_in table; marked = marked_in seats table }

pub new_is : (seats : Seated) (table : LinkTable) → seats.slots ≡ [] → dependencies_in table ≡ [] → table.marked.nodes ≡ [] → shown seats table ≡ record { names = []; dependencies = []; marked = [] }
unfolding names_of
new_is seats table nobody none unmarked = λ i. record {
  names = ap (λ (l : List (Option Txn)). filter_map (λ (slot : Option Txn). option_map (λ (t : Txn). t.0) slot) l) nobody i;
  dependencies = none i;
  marked = nothing_marked seats table.marked.nodes unmarked i;
}

-- the table shows the same while its room grows
pub shows_same : (seats new : Seated) (table more : LinkTable) → ((c : ℕ) → seat new c ≡ seat seats c) → dependencies_in more ≡ dependencies_in table → more.marked.nodes ≡ table.marked.nodes → shown new more ≡ shown seats table
shows_same seats new table more same stand is = λ i. record {
  names = names_same seats new same i;
  dependencies = stand i;
  marked = (ap (marked_of new) is ∙ marked_same seats new table.marked.nodes (λ c listed. same c)) i;
}

-- a table stays tied while the seats stay
pub tied_same : (table : LinkTable) (seats new : Seated) → IsTied table seats → ((c : ℕ) → seat new c ≡ seat seats c) → IsTied table new
tied_same table seats new tied same = record {
  placed = tied.placed;
  sources = λ k c d there home. same c ∙ tied.sources k c d there home;
  dependents = λ k c d there home. same c ∙ tied.dependents k c d there home;
  within = λ c some. tied.within c (sym (ap is_some (same c)) ∙ some);
  taken = λ c listed. ap is_some (same c) ∙ tied.taken c listed;
  single = tied.single;
}

-- and as somebody sits down for whom there is room
pub tied_sits : (table : LinkTable) (seats new : Seated) (s : ℕ) (t : Txn) → IsTied table seats → seat seats s ≡ None → ((c : ℕ) → seat new c ≡ cond (eqb c s) (Some t) (seat seats c)) → HasRoom table s → IsTied table new
tied_sits table seats new s t tied free sits room = record {
  placed = tied.placed;
  sources = λ k c d there home. still c (record { 0 = d.source }) (tied.sources k c d there home);
  dependents = λ k c d there home. still c (record { 0 = d.dependent }) (tied.dependents k c d there home);
  within = λ c some. go c (eqb c s) refl some;
  taken = λ c listed. let u = some_of (seat seats c) (tied.taken c listed) in ap is_some (still c u.0 u.1);
  single = tied.single;
} where
  still : (c : ℕ) (u : Txn) → seat seats c ≡ Some u → seat new c ≡ Some u
  still c u sat = sits_still s t seats new free sits c u sat

  go : (c : ℕ) (b : Bool) → eqb c s ≡ b → is_some (seat new c) ≡ true → HasRoom table c
  go c true at some = let here : c ≡ s = eqb-true c s at in rw here room
  go c false at some = tied.within c (sym (ap is_some (sits c ∙ ap (λ b. cond b (Some t) (seat seats c)) at)) ∙ some)

-- the mark that was made last is taken away
pub popped_valid : (p : Parts) (size : ℕ) (marked fewer : Met) (o : Option ℕ) → IfSome o (λ c. (c < marked.size) × (marked.nodes ≡ fewer.nodes ++ c ∷ []) × (lists fewer.nodes c ≡ false)) → IfNone o ((marked.nodes ≡ []) × (fewer ≡ marked)) → fewer.size ≡ marked.size → IsValid p size marked
    → IsValid p size fewer
popped_valid p size marked fewer None last none same valid = subst (λ (m : Met). IsValid p size m) (sym none.1) valid
popped_valid p size marked fewer (Some c) last none same valid = record {
  placed = valid.placed;
  sources = valid.sources;
  dependents = valid.dependents;
  within = λ d there. let old = valid.within d there in (old.0, old.1, old.2, rw same old.3);
  taken = taken_before p.seats marked.nodes fewer.nodes c valid.taken last.1;
  single = valid.single;
}

-- who has ended is not marked
pub marked_gone : (seats : Seated) (nodes fewer : List ℕ) (t : Txn) → ((n : ℕ) → lists (marked_of seats fewer) n ≡ (lists (marked_of seats nodes) n && not (eqb n t.0))) → lists (marked_of seats fewer) t.0 ≡ false
marked_gone seats nodes fewer t gone = gone t.0 ∙ ap (λ b. lists (marked_of seats nodes) t.0 && not b) (eq-eqb t.0 t.0 refl) ∙ never (lists (marked_of seats nodes) t.0) where
  never : (b : Bool) → (b && false) ≡ false
  never true = refl
  never false = refl
