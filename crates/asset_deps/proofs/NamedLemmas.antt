-- From seats to transactions: the ways of a search between seats are those between the transactions that have them.
use Rattle.std.proofs.Common.{◌≡◌, ℕ, ◌<◌, Bool, true, false, cond, eqb, ◌&&◌, ◌||◌, List, ◌++◌, Option, Some, None, is_some, refl, sym, ap, subst, ◌∙◌, inl, inr}
use Rattle.std.proofs.lemmas.Bool.{or_cases, or_left, or_right, and_from, and_parts, eqb-true, eqb-false, eq-eqb, false≢true}
use Rattle.slab.specs.Slab.{Slab, get}
use Rattle.asset_names.specs.declared.names.Txn.{Txn}
use Rattle.asset_names.specs.Arrows.{Arrow, linked, lists, has_arrow}
use Rattle.asset_names.proofs.Arrows.{linked_refl}
use Rattle.asset_names.proofs.Common.{some_of, both_follow}
use Rattle.asset_names.proofs.DependLemmas.{has_append}
use Rattle.asset_chains.specs.Chained.{Chained, home_of}
use Rattle.asset_seats.specs.Seated.{seat}
use Rattle.asset_marks.specs.Marked.{Met}
use Rattle.asset_marks.specs.Searched.{arrows_from, arrows_along, leads_to}
use Rattle.asset_marks.proofs.ArrowLemmas.{linked_step, kept_linked, closed_linked}
use Rattle.asset_marks.proofs.KeyedLemmas.{turned, turned_leads, turned_append, linked_turned, arrows_turned, item_leads, item_of_arrow, leads_by}
use Rattle.asset_marks.proofs.SlotLemmas.{any_has, key_of_any}
use Rattle.asset_deps.specs.declared.kinds.Kinds.{Kinds}
use Rattle.asset_deps.specs.declared.kinds.Kinds.TheVariants.{Class}
use Rattle.asset_deps.specs.Dependencies.{Dependency}
use Rattle.asset_deps.specs.Reached.{of_kinds, depends_by, ways_in, seat_ways}
use Rattle.asset_deps.specs.Valid.{Parts, dependencies_of, marked_of, AreTaken, IsValid}
use Rattle.asset_deps.proofs.KindLemmas.{joins, way_in}
use Rattle.asset_deps.proofs.SeatLemmas.{marked_seat, seat_marked}

-- ---- a dependency and its two seats
pub record HasEnds (p : Parts) (k : ℕ) (d : Dependency) : Type 0 where
  pub from : ℕ
  pub to : ℕ
  pub home : home_of p.along k ≡ Some from
  pub end : home_of p.across k ≡ Some to
  pub source : seat p.seats from ≡ Some (record { 0 = d.source })
  pub dependent : seat p.seats to ≡ Some (record { 0 = d.dependent })

pub has_across : (p : Parts) (size : ℕ) (marked : Met) → IsValid p size marked → (k : ℕ) (d : Dependency) → get p.links k ≡ Some d → HasEnds p k d
has_across p size marked valid k d there =
    let home = some_of (home_of p.along k) (sym (valid.placed.along k) ∙ ap is_some there) in
    let end = some_of (home_of p.across k) (sym (valid.placed.across k) ∙ ap is_some there) in
    record { from = home.0; to = end.0; home = home.1; end = end.1; source = valid.sources k home.0 d there home.1; dependent = valid.dependents k end.0 d there end.1 }

-- a dependency that joins two names is of them
pub joins_parts : (test : Dependency → Bool) (u v : ℕ) (d : Dependency) → joins test u v d ≡ true → (test d ≡ true) × (d.source ≡ u) × (d.dependent ≡ v)
joins_parts test u v d h =
    let all = and_parts (test d && eqb d.source u) (eqb d.dependent v) h in
    let first = and_parts (test d) (eqb d.source u) all.0 in
    (first.0, eqb-true d.source u first.1, eqb-true d.dependent v all.1)

pub joins_from : (test : Dependency → Bool) (u v : ℕ) (d : Dependency) → test d ≡ true → d.source ≡ u → d.dependent ≡ v → joins test u v d ≡ true
joins_from test u v d passes source dependent = and_from _ _ (and_from _ _ passes (eq-eqb d.source u source)) (eq-eqb d.dependent v dependent)

pub joins_source : (test : Dependency → Bool) (u v : ℕ) (d : Dependency) → joins test u v d ≡ true → d.source ≡ u
joins_source test u v d h = (joins_parts test u v d h).1

pub joins_dependent : (test : Dependency → Bool) (u v : ℕ) (d : Dependency) → joins test u v d ≡ true → d.dependent ≡ v
joins_dependent test u v d h = (joins_parts test u v d h).2

-- an arrow between seats that is also one between those who have them
pub record Between (p : Parts) (holds : ℕ → ℕ → Type 0) (c d : ℕ) : Type 0 where
  pub first : Txn
  pub second : Txn
  pub from : seat p.seats c ≡ Some first
  pub to : seat p.seats d ≡ Some second
  pub there : holds first.0 second.0

-- the seats of two names
pub record Seats (p : Parts) (holds : ℕ → ℕ → Type 0) (u v : ℕ) : Type 0 where
  pub first : ℕ
  pub second : ℕ
  pub from : seat p.seats first ≡ Some (record { 0 = u })
  pub to : seat p.seats second ≡ Some (record { 0 = v })
  pub there : holds first second

module _ (p : Parts) (size : ℕ) (marked : Met) (valid : IsValid p size marked) where
  -- ---- along the dependencies of some kinds
  pub along_named : (kinds : Kinds) (c d : ℕ) → has_arrow (arrows_along (of_kinds kinds) p.links p.along p.across) c d ≡ true → Between p (λ u v. depends_by kinds (dependencies_of p.links) u v ≡ true) c d
  unfolding depends_by dependencies_of
  along_named kinds c d arrow =
      let found = item_of_arrow (of_kinds kinds) p.links p.along p.across c d arrow in
      let item = leads_by (of_kinds kinds) (get p.links found.0) (home_of p.across found.0) d found.2 in
      record {
        first = record { 0 = item.0.source };
        second = record { 0 = item.0.dependent };
        from = valid.sources found.0 c item.0 item.1 found.1;
        to = valid.dependents found.0 d item.0 item.1 item.3;
        there = any_has (joins (of_kinds kinds) item.0.source item.0.dependent) p.links found.0 item.0 item.1 (joins_from (of_kinds kinds) item.0.source item.0.dependent item.0 item.2 refl refl);
      }

  pub named_along : (kinds : Kinds) (u v : ℕ) → depends_by kinds (dependencies_of p.links) u v ≡ true → Seats p (λ c d. has_arrow (arrows_along (of_kinds kinds) p.links p.along p.across) c d ≡ true) u v
  unfolding depends_by dependencies_of
  named_along kinds u v h =
      let found = key_of_any (joins (of_kinds kinds) u v) p.links h in
      let parts = joins_parts (of_kinds kinds) u v found.1 found.3 in
      let across = has_across p size marked valid found.0 found.1 found.2 in
      record {
        first = across.from;
        second = across.to;
        from = across.source ∙ (λ i. Some (record { 0 = parts.1 i }));
        to = across.dependent ∙ (λ i. Some (record { 0 = parts.2 i }));
        there = item_leads (of_kinds kinds) p.links p.along p.across found.0 across.from across.to across.home (leads found.0 found.1 found.2 parts.0 ∙ across.end);
      } where
        leads : (k : ℕ) (d : Dependency) → get p.links k ≡ Some d → of_kinds kinds d ≡ true → leads_to (of_kinds kinds) (get p.links k) (home_of p.across k) ≡ home_of p.across k
        leads k d there passes = ap (λ (o : Option Dependency). leads_to (of_kinds kinds) o (home_of p.across k)) there ∙ go (of_kinds kinds d) passes where
          go : (b : Bool) → b ≡ true → cond b (home_of p.across k) None ≡ home_of p.across k
          go true is = refl
          go false is = absurd (false≢true is)

  -- back along the ends is along turned round
  pub back_is : (kinds : Kinds) (c d : ℕ) → has_arrow (arrows_along (of_kinds kinds) p.links p.across p.along) c d ≡ has_arrow (arrows_along (of_kinds kinds) p.links p.along p.across) d c
  unfolding arrows_along
  back_is kinds c d = ap (λ (l : List Arrow). has_arrow l c d) (arrows_turned (of_kinds kinds) p.along p.across 0 p.links.slots) ∙ turned_leads (arrows_from (of_kinds kinds) p.along p.across 0 p.links.slots) c d

  -- ---- the ways of a search
  seat_way : (kinds : Kinds) (c d : ℕ) → has_arrow (seat_ways kinds p.links p.along p.across) c d
      ≡ (has_arrow (arrows_along (of_kinds kinds) p.links p.along p.across) c d || has_arrow (arrows_along (of_kinds Class) p.links p.along p.across) d c)
  unfolding seat_ways
  seat_way kinds c d =
      has_append (arrows_along (of_kinds kinds) p.links p.along p.across) (arrows_along (of_kinds Class) p.links p.across p.along) c d
      ∙ ap (λ b. has_arrow (arrows_along (of_kinds kinds) p.links p.along p.across) c d || b) (back_is Class c d)

  way_named : (kinds : Kinds) (c d : ℕ) → has_arrow (seat_ways kinds p.links p.along p.across) c d ≡ true → Between p (λ u v. has_arrow (ways_in kinds (dependencies_of p.links)) u v ≡ true) c d
  way_named kinds c d arrow = elim (or_cases _ _ (sym (seat_way kinds c d) ∙ arrow)) [
    | inl on ↦
        let found = along_named kinds c d on in
        record { first = found.first; second = found.second; from = found.from; to = found.to; there = way_in kinds (dependencies_of p.links) found.first.0 found.second.0 ∙ or_left _ _ found.there }
    | inr back ↦
        let found = along_named Class d c back in
        record { first = found.second; second = found.first; from = found.to; to = found.from; there = way_in kinds (dependencies_of p.links) found.second.0 found.first.0 ∙ or_right _ _ found.there }
  ]

  named_way : (kinds : Kinds) (u v : ℕ) → has_arrow (ways_in kinds (dependencies_of p.links)) u v ≡ true → Seats p (λ c d. has_arrow (seat_ways kinds p.links p.along p.across) c d ≡ true) u v
  named_way kinds u v arrow = elim (or_cases _ _ (sym (way_in kinds (dependencies_of p.links) u v) ∙ arrow)) [
    | inl on ↦ let found = named_along kinds u v on in record { first = found.first; second = found.second; from = found.from; to = found.to; there = seat_way kinds found.first found.second ∙ or_left _ _ found.there }
    | inr back ↦ let found = named_along Class v u back in record { first = found.second; second = found.first; from = found.to; to = found.from; there = seat_way kinds found.second found.first ∙ or_right _ _ found.there }
  ]

  -- a way leads to a seat that has its marks
  pub way_within : (kinds : Kinds) (c d : ℕ) → has_arrow (seat_ways kinds p.links p.along p.across) c d ≡ true → (d < size) × (d < marked.size)
  way_within kinds c d arrow = let found = way_named kinds c d arrow in let within = valid.within d (ap is_some found.to) in (within.2, within.3)

  pub way_from_within : (kinds : Kinds) (c d : ℕ) → has_arrow (seat_ways kinds p.links p.along p.across) c d ≡ true → c < size
  way_from_within kinds c d arrow = let found = way_named kinds c d arrow in (valid.within c (ap is_some found.from)).2

  pub source_within : (kinds : Kinds) (c d : ℕ) → has_arrow (arrows_along (of_kinds kinds) p.links p.across p.along) d c ≡ true → c < size
  source_within kinds c d arrow = let found = along_named kinds c d (sym (back_is kinds d c) ∙ arrow) in (valid.within c (ap is_some found.from)).2

  pub source_seated : (kinds : Kinds) (c d : ℕ) → has_arrow (arrows_along (of_kinds kinds) p.links p.across p.along) d c ≡ true → c < marked.size
  source_seated kinds c d arrow = let found = along_named kinds c d (sym (back_is kinds d c) ∙ arrow) in (valid.within c (ap is_some found.from)).3

  -- ---- one who has no seat leads to nobody, and nobody to it
  pub leads_to_nobody : (kinds : Kinds) (t : Txn) (n : ℕ) → ((c : ℕ) → seat p.seats c ≡ Some t → ⊥) → linked (ways_in kinds (dependencies_of p.links)) t.0 n ≡ eqb t.0 n
  leads_to_nobody kinds t n absent = both_follow _ _ to (λ same. subst (λ k. linked (ways_in kinds (dependencies_of p.links)) t.0 k ≡ true) (eqb-true t.0 n same) (linked_refl (ways_in kinds (dependencies_of p.links)) t.0)) where
    closed : (u v : ℕ) → has_arrow (ways_in kinds (dependencies_of p.links)) u v ≡ true → eqb t.0 u ≡ true → eqb t.0 v ≡ true
    closed u v arrow is = let found = named_way kinds u v arrow in absurd (absent found.first (found.from ∙ (λ i. Some (record { 0 = sym (eqb-true t.0 u is) i }))))

    to : linked (ways_in kinds (dependencies_of p.links)) t.0 n ≡ true → eqb t.0 n ≡ true
    to way = closed_linked (eqb t.0) (ways_in kinds (dependencies_of p.links)) closed t.0 n way (eq-eqb t.0 t.0 refl)

  pub nobody_leads : (kinds : Kinds) (t : Txn) (n : ℕ) → ((c : ℕ) → seat p.seats c ≡ Some t → ⊥) → eqb n t.0 ≡ false → linked (ways_in kinds (dependencies_of p.links)) n t.0 ≡ false
  nobody_leads kinds t n absent another = go (linked (ways_in kinds (dependencies_of p.links)) n t.0) refl where
    apart : n ≡ t.0 → ⊥
    apart = eqb-false n t.0 another

    go : (b : Bool) → linked (ways_in kinds (dependencies_of p.links)) n t.0 ≡ b → b ≡ false
    go true way =
        absurd (kept_linked (λ k. k ≡ t.0 → ⊥) (ways_in kinds (dependencies_of p.links)) (λ u v arrow other is.
        let found = named_way kinds u v arrow in
        absent found.second (found.to ∙ (λ i. Some (record { 0 = is i })))) n t.0 way apart refl)
    go false way = refl

  -- only itself leads to one who is not enrolled
  pub itself_leads : (kinds : Kinds) (t : Txn) (n : ℕ) → ((c : ℕ) → seat p.seats c ≡ Some t → ⊥) → linked (ways_in kinds (dependencies_of p.links)) n t.0 ≡ eqb n t.0
  itself_leads kinds t n absent = go (eqb n t.0) refl where
    go : (b : Bool) → eqb n t.0 ≡ b → linked (ways_in kinds (dependencies_of p.links)) n t.0 ≡ b
    go true is = ap (linked (ways_in kinds (dependencies_of p.links)) n) (sym (eqb-true n t.0 is)) ∙ linked_refl (ways_in kinds (dependencies_of p.links)) n
    go false is = nobody_leads kinds t n absent is

  -- ---- transactions are linked as their seats are
  module _ (one : (t : Txn) (c d : ℕ) → seat p.seats c ≡ Some t → seat p.seats d ≡ Some t → d ≡ c) where
    -- a seat that is reached is that of a name that is reached
    pub reached_name : (kinds : Kinds) (a b : ℕ) (t : Txn) → seat p.seats a ≡ Some t → linked (seat_ways kinds p.links p.along p.across) a b ≡ true
        → (u : Txn) × (seat p.seats b ≡ Some u) × (linked (ways_in kinds (dependencies_of p.links)) t.0 u.0 ≡ true)
    reached_name kinds a b t sat way =
        kept_linked (λ c. (u : Txn) × (seat p.seats c ≡ Some u) × (linked (ways_in kinds (dependencies_of p.links)) t.0 u.0 ≡ true)) (seat_ways kinds p.links p.along p.across) (λ c d arrow so.
        let found = way_named kinds c d arrow in
        let same : Some so.0 ≡ Some found.first = sym so.1 ∙ found.from in
        let is : so.0 ≡ found.first = cc same in
        (found.second, found.to, linked_step (ways_in kinds (dependencies_of p.links)) t.0 found.first.0 found.second.0 (subst (λ (u : Txn). linked (ways_in kinds (dependencies_of p.links)) t.0 u.0 ≡ true) is so.2) found.there)) a b way
        (t, sat, linked_refl (ways_in kinds (dependencies_of p.links)) t.0)

    -- a name that is reached has a seat that is reached
    pub reached_seat : (kinds : Kinds) (a : ℕ) (t : Txn) (n : ℕ) → seat p.seats a ≡ Some t → linked (ways_in kinds (dependencies_of p.links)) t.0 n ≡ true
        → (b : ℕ) × (seat p.seats b ≡ Some (record { 0 = n })) × (linked (seat_ways kinds p.links p.along p.across) a b ≡ true)
    reached_seat kinds a t n sat way =
        kept_linked (λ k. (b : ℕ) × (seat p.seats b ≡ Some (record { 0 = k })) × (linked (seat_ways kinds p.links p.along p.across) a b ≡ true)) (ways_in kinds (dependencies_of p.links)) (λ u v arrow so.
        let found = named_way kinds u v arrow in
        let is : so.0 ≡ found.first = one (record { 0 = u }) found.first so.0 found.from so.1 in
        (found.second, found.to, linked_step (seat_ways kinds p.links p.along p.across) a found.first found.second (subst (λ c. linked (seat_ways kinds p.links p.along p.across) a c ≡ true) is so.2) found.there)) t.0 n way
        (a, sat, linked_refl (seat_ways kinds p.links p.along p.across) a)

    pub linked_named : (kinds : Kinds) (a b : ℕ) (t u : Txn) → seat p.seats a ≡ Some t → seat p.seats b ≡ Some u → linked (seat_ways kinds p.links p.along p.across) a b ≡ linked (ways_in kinds (dependencies_of p.links)) t.0 u.0
    linked_named kinds a b t u sat other =
        both_follow _ _
        (λ way.
        let found = reached_name kinds a b t sat way in
        let same : Some found.0 ≡ Some u = sym found.1 ∙ other in
        let is : found.0 ≡ u = cc same in
        subst (λ (v : Txn). linked (ways_in kinds (dependencies_of p.links)) t.0 v.0 ≡ true) is found.2)
        (λ way.
        let found = reached_seat kinds a t u.0 sat way in
        subst (λ c. linked (seat_ways kinds p.links p.along p.across) a c ≡ true) (one u b found.0 other found.1) found.2)

-- ---- the search backwards
ways_turned : (kinds : Kinds) (links : Slab Dependency) (along across : Chained) → seat_ways kinds links across along ≡ turned (seat_ways kinds links along across)
unfolding seat_ways arrows_along
ways_turned kinds links along across =
    (λ i. arrows_turned (of_kinds kinds) along across 0 links.slots i ++ arrows_turned (of_kinds Class) across along 0 links.slots i)
    ∙ sym (turned_append (arrows_from (of_kinds kinds) along across 0 links.slots) (arrows_from (of_kinds Class) across along 0 links.slots))

-- it finds what the search forwards finds
pub linked_back : (kinds : Kinds) (links : Slab Dependency) (along across : Chained) (from to : ℕ) → linked (seat_ways kinds links across along) to from ≡ linked (seat_ways kinds links along across) from to
linked_back kinds links along across from to = ap (λ (l : List Arrow). linked l to from) (ways_turned kinds links along across) ∙ linked_turned (seat_ways kinds links along across) from to

pub way_back : (kinds : Kinds) (links : Slab Dependency) (along across : Chained) (c d : ℕ) → has_arrow (seat_ways kinds links across along) c d ≡ has_arrow (seat_ways kinds links along across) d c
way_back kinds links along across c d = ap (λ (l : List Arrow). has_arrow l c d) (ways_turned kinds links along across) ∙ turned_leads (seat_ways kinds links along across) c d

-- ---- what a search has met is marked
module _ (p : Parts) (size : ℕ) (marked met : Met) (valid : IsValid p size marked) (one : (t : Txn) (c d : ℕ) → seat p.seats c ≡ Some t → seat p.seats d ≡ Some t → d ≡ c) (kinds : Kinds) (s : ℕ) (t : Txn) (sat : seat p.seats s ≡ Some t)
    (same_size : met.size ≡ marked.size) (reached : (n : ℕ) → lists met.nodes n ≡ linked (seat_ways kinds p.links p.along p.across) s n) where
  met_taken : AreTaken p.seats met.nodes
  met_taken c listed = ap is_some (reached_name p size marked valid one kinds s c t sat (sym (reached c) ∙ listed)).1

  pub valid_marked : IsValid p size met
  valid_marked = record {
    placed = valid.placed;
    sources = valid.sources;
    dependents = valid.dependents;
    within = λ c there. let old = valid.within c there in (old.0, old.1, old.2, rw same_size old.3);
    taken = met_taken;
    single = valid.single;
  }

  pub marked_reached : (n : ℕ) → lists (marked_of p.seats met.nodes) n ≡ linked (ways_in kinds (dependencies_of p.links)) t.0 n
  marked_reached n = both_follow _ _ to back where
    to : lists (marked_of p.seats met.nodes) n ≡ true → linked (ways_in kinds (dependencies_of p.links)) t.0 n ≡ true
    to h =
        let found = marked_seat p.seats met.nodes n met_taken h in
        sym (linked_named p size marked valid one kinds s found.0 t (record { 0 = n }) sat found.2) ∙ sym (reached found.0) ∙ found.1

    back : linked (ways_in kinds (dependencies_of p.links)) t.0 n ≡ true → lists (marked_of p.seats met.nodes) n ≡ true
    back h = let found = reached_seat p size marked valid one kinds s t n sat h in seat_marked p.seats met.nodes found.0 (record { 0 = n }) found.1 (reached found.0 ∙ found.2)
