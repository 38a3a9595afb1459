-- Whether a member of a class depends on a source outside it, and on which, by the seats that a search along the class has
-- met.
use Rattle.std.proofs.Common.{◌≡◌, ℕ, ◌+◌, ◌<◌, ◌≤◌, Bool, true, false, eqb, not, ◌&&◌, List, [], ◌∷◌, get_or, length, Some, is_some, refl, sym, ap, subst, ◌∙◌, inl, inr, arith}
use Rattle.std.specs.List.{list_any}
use Rattle.std.proofs.lemmas.Bool.{or_cases, or_left, or_right, and_from, and_parts, eqb-true, eq-eqb, ne_eqb, cases_eq, false≢true, true≢false, false_from_ne_true, not-true}
use Rattle.asset_names.specs.declared.names.Txn.{Txn}
use Rattle.asset_names.specs.Arrows.{Arrow, linked, lists, has_arrow}
use Rattle.asset_names.specs.Paths.{has_outside}
use Rattle.asset_names.proofs.Common.{both_follow}
use Rattle.asset_names.proofs.ListLemmas.{listed_at, lists_at}
use Rattle.asset_seats.specs.Seated.{seat}
use Rattle.asset_marks.specs.Marked.{Met}
use Rattle.asset_marks.specs.Searched.{arrows_along, Expands}
use Rattle.asset_marks.proofs.WalkLemmas.{lists_left, lists-append}
use Rattle.asset_deps.specs.declared.kinds.Kinds.TheVariants.{Class, Order}
use Rattle.asset_deps.specs.Dependencies.{class_ways, order_ways, class_in, outside_source_in, is_outside_of, is_outside_source_in}
use Rattle.asset_deps.specs.Reached.{of_kinds, depends_by, seat_ways}
use Rattle.asset_deps.specs.Valid.{Parts, dependencies_of, marked_of, AreTaken, IsValid}
use Rattle.asset_deps.proofs.KindLemmas.{class_linked, by_order}
use Rattle.asset_deps.proofs.SeatLemmas.{marked_seat, seat_marked, marked_is}
use Rattle.asset_deps.proofs.NamedLemmas.{linked_named, reached_name, leads_to_nobody, along_named, named_along, back_is}

-- a test that an arrow passes is passed by its two ends
pub arrow_of_any : (test : ℕ → ℕ → Bool) (arrows : List Arrow) → list_any (λ (arrow : Arrow). test arrow.0 arrow.1) arrows ≡ true → (u v : ℕ) × (has_arrow arrows u v ≡ true) × (test u v ≡ true)
unfolding has_arrow
arrow_of_any test [] h = absurd (false≢true h)
arrow_of_any test (arrow ∷ arrows) h = elim (or_cases (test arrow.0 arrow.1) _ h) [
  | inl here ↦ (arrow.0, arrow.1, or_left _ _ (and_from _ _ (eq-eqb arrow.0 arrow.0 refl) (eq-eqb arrow.1 arrow.1 refl)), here)
  | inr later ↦ let found = arrow_of_any test arrows later in (found.0, found.1, or_right _ _ found.2, found.3)
]

pub any_of_arrow : (test : ℕ → ℕ → Bool) (arrows : List Arrow) (u v : ℕ) → has_arrow arrows u v ≡ true → test u v ≡ true → list_any (λ (arrow : Arrow). test arrow.0 arrow.1) arrows ≡ true
unfolding has_arrow
any_of_arrow test [] u v h passes = absurd (false≢true h)
any_of_arrow test (arrow ∷ arrows) u v h passes = elim (or_cases (eqb arrow.0 u && eqb arrow.1 v) _ h) [
  | inl here ↦ let names = and_parts (eqb arrow.0 u) (eqb arrow.1 v) here in or_left _ _ ((λ i. test (eqb-true arrow.0 u names.0 i) (eqb-true arrow.1 v names.1 i)) ∙ passes)
  | inr later ↦ or_right _ _ (any_of_arrow test arrows u v later passes)
]

-- ---- what is met from members of a class, and what is left of it outside
-- the first few of the members were passed: to each node that is met an arrow leads from a member, and each to which one
-- leads from those that were passed is met
pub record IsMetFrom (arrows : List Arrow) (members found : List ℕ) (next : ℕ) : Type 0 where
  pub met : (t : ℕ) → lists found t ≡ true → (u : ℕ) × (lists members u ≡ true) × (has_arrow arrows u t ≡ true)
  pub all : (i t : ℕ) → i < next → has_arrow arrows (get_or members i 0) t ≡ true → lists found t ≡ true

pub met_from_none : (arrows : List Arrow) (members found : List ℕ) → found ≡ [] → IsMetFrom arrows members found 0
unfolding lists
met_from_none arrows members found none = record {
  met = λ t h. absurd (true≢false (sym h ∙ ap (λ (l : List ℕ). lists l t) none));
  all = λ i t below. absurd (omega (arith, below));
}

pub met_from_next : (arrows : List Arrow) (members before after : List ℕ) (next : ℕ) → IsMetFrom arrows members before next → next < length members → Expands arrows (get_or members next 0) before after → IsMetFrom arrows members after (next + 1)
met_from_next arrows members before after next passed below expands = record {
  met = λ t h. elim (or_cases (lists before t) (lists expands.more t) (sym (ap (λ (l : List ℕ). lists l t) expands.kept ∙ lists-append before expands.more t) ∙ h)) [
    | inl was ↦ passed.met t was
    | inr new ↦ (get_or members next 0, lists_at members (get_or members next 0) next below refl, expands.is_linked t new)
  ];
  all = λ i t within arrow. elim (cases_eq i next) [
    | inl is ↦ expands.all t (subst (λ (j : ℕ). has_arrow arrows (get_or members j 0) t ≡ true) is arrow)
    | inr apart ↦ ap (λ (l : List ℕ). lists l t) expands.kept ∙ lists_left before expands.more t (passed.all i t (omega (arith, within, apart)) arrow)
  ];
}

pub met_from_all : (arrows : List Arrow) (members found : List ℕ) (next : ℕ) → IsMetFrom arrows members found next → length members ≤ next → (u t : ℕ) → lists members u ≡ true → has_arrow arrows u t ≡ true → lists found t ≡ true
met_from_all arrows members found next passed past u t member arrow =
    let at = listed_at members u member in
    passed.all at.0 t (omega (arith, at.1, past)) (subst (λ (n : ℕ). has_arrow arrows n t ≡ true) (sym at.2) arrow)

-- the first few of the members are forgotten, and who is no member is as before
pub record IsForgotten (members before found : List ℕ) (next : ℕ) : Type 0 where
  pub left : (n : ℕ) → lists found n ≡ true → lists before n ≡ true
  pub gone : (n i : ℕ) → i < next → get_or members i 0 ≡ n → lists found n ≡ false
  pub kept : (n : ℕ) → lists before n ≡ true → lists members n ≡ false → lists found n ≡ true

pub forgotten_none : (members before : List ℕ) → IsForgotten members before before 0
forgotten_none members before = record { left = λ n h. h; gone = λ n i below. absurd (omega (arith, below)); kept = λ n h other. h }

pub forgotten_next : (members before found after : List ℕ) (next : ℕ) → IsForgotten members before found next → next < length members → ((n : ℕ) → lists after n ≡ (lists found n && not (eqb n (get_or members next 0)))) → IsForgotten members before after (next + 1)
forgotten_next members before found after next passed below less = record {
  left = λ n h. passed.left n (and_parts _ _ (sym (less n) ∙ h)).0;
  gone = λ n i within is. less n ∙ elim (cases_eq i next) [
    | inl same ↦ no_more (lists found n) _ (eq-eqb n (get_or members next 0) (sym is ∙ ap (λ (j : ℕ). get_or members j 0) same))
    | inr apart ↦ ap (λ (b : Bool). b && not (eqb n (get_or members next 0))) (passed.gone n i (omega (arith, within, apart)) is)
  ];
  kept = λ n h other. less n ∙ and_from _ _ (passed.kept n h other) (ap not (ne_eqb n (get_or members next 0) (λ same.
      true≢false (sym (lists_at members n next below (sym same)) ∙ other))));
} where
  no_more : (a b : Bool) → b ≡ true → (a && not b) ≡ false
  no_more true b is = ap not is
  no_more false b is = refl

pub forgotten_all : (members before found : List ℕ) (next : ℕ) → IsForgotten members before found next → length members ≤ next → (n : ℕ) → lists found n ≡ (lists before n && not (lists members n))
forgotten_all members before found next passed past n = both_follow _ _
    (λ h. and_from _ _ (passed.left n h) (ap not (false_from_ne_true _ (λ member.
    let at = listed_at members n member in
    true≢false (sym h ∙ passed.gone n at.0 (omega (arith, at.1, past)) at.2)))))
    (λ h. let both = and_parts _ _ h in passed.kept n both.0 (not-true _ both.1))

module _ (p : Parts) (size : ℕ) (marked : Met) (valid : IsValid p size marked) (t : Txn) where
  -- whether the arrow leads into t's class from outside
  abbrev enters : ℕ → ℕ → Bool
  enters u v = linked (class_ways (dependencies_of p.links)) t.0 v && not (linked (class_ways (dependencies_of p.links)) t.0 u)

  enters_any : outside_source_in (dependencies_of p.links) t.0 ≡ list_any (λ (arrow : Arrow). enters arrow.0 arrow.1) (order_ways (dependencies_of p.links))
  unfolding outside_source_in has_outside
  enters_any = refl

  -- ---- one who is a class of its own, on no source
  pub no_outside_alone : ((n : ℕ) → linked (class_ways (dependencies_of p.links)) t.0 n ≡ eqb t.0 n) → ((u v : ℕ) → depends_by Order (dependencies_of p.links) u v ≡ true → v ≡ t.0 → ⊥) → outside_source_in (dependencies_of p.links) t.0 ≡ false
  unfolding class_in
  no_outside_alone alone none = go (outside_source_in (dependencies_of p.links) t.0) refl where
    go : (b : Bool) → outside_source_in (dependencies_of p.links) t.0 ≡ b → b ≡ false
    go true is =
        let found = arrow_of_any enters (order_ways (dependencies_of p.links)) (sym enters_any ∙ is) in
        let way = (and_parts (linked (class_ways (dependencies_of p.links)) t.0 found.1) (not (linked (class_ways (dependencies_of p.links)) t.0 found.0)) found.3).0 in
        let same : eqb t.0 found.1 ≡ true = sym (alone found.1) ∙ way in
        absurd (none found.0 found.1 (by_order (dependencies_of p.links) found.0 found.1 ∙ found.2) (sym (eqb-true t.0 found.1 same)))
    go false is = refl

  -- ---- one who has no seat
  pub no_outside : ((c : ℕ) → seat p.seats c ≡ Some t → ⊥) → outside_source_in (dependencies_of p.links) t.0 ≡ false
  unfolding class_in
  no_outside absent = no_outside_alone (λ n. sym (class_linked (dependencies_of p.links) t.0 n) ∙ leads_to_nobody p size marked valid Class t n absent)
      (λ u v on is. let seats = named_along p size marked valid Order u v on in absurd (absent seats.second (seats.to ∙ (λ i. Some (record { 0 = is i })))))

  -- ---- one who has a seat, and whose class a search has met
  module _ (one : (u : Txn) (c d : ℕ) → seat p.seats c ≡ Some u → seat p.seats d ≡ Some u → d ≡ c) (s : ℕ) (sat : seat p.seats s ≡ Some t) (nodes : List ℕ)
      (met : (n : ℕ) → lists nodes n ≡ linked (seat_ways Class p.links p.along p.across) s n) where
    -- a seat is met where who has it is of the class
    pub met_is : (c : ℕ) (u : Txn) → seat p.seats c ≡ Some u → lists nodes c ≡ linked (class_ways (dependencies_of p.links)) t.0 u.0
    unfolding class_in
    met_is c u there = met c ∙ linked_named p size marked valid one Class s c t u sat there ∙ class_linked (dependencies_of p.links) t.0 u.0

    pub members_within : (n : ℕ) → lists nodes n ≡ true → n < marked.size
    members_within n h = (valid.within n (ap is_some (reached_name p size marked valid one Class s n t sat (sym (met n) ∙ h)).1)).3

  -- a seat is marked where who has it is of the class, if the class is marked
  pub class_marked : ((u : Txn) (c d : ℕ) → seat p.seats c ≡ Some u → seat p.seats d ≡ Some u → d ≡ c) → ((n : ℕ) → lists (marked_of p.seats marked.nodes) n ≡ class_in (dependencies_of p.links) t.0 n)
      → (c : ℕ) (u : Txn) → seat p.seats c ≡ Some u → lists marked.nodes c ≡ linked (class_ways (dependencies_of p.links)) t.0 u.0
  unfolding class_in
  class_marked one is c u there = marked_is p.seats marked.nodes c u valid.taken there (λ d also. one u c d there also) ∙ is u.0

  -- ---- one whose class has been met, or is marked
  module _ (nodes : List ℕ) (members : (c : ℕ) (u : Txn) → seat p.seats c ≡ Some u → lists nodes c ≡ linked (class_ways (dependencies_of p.links)) t.0 u.0) where
    pub outside_is : (result : Bool)
        → (result ≡ true → (u v : ℕ) × (lists nodes u ≡ true) × (has_arrow (arrows_along (of_kinds Order) p.links p.across p.along) u v ≡ true) × (lists nodes v ≡ false))
        → (result ≡ false → (u v : ℕ) → lists nodes u ≡ true → has_arrow (arrows_along (of_kinds Order) p.links p.across p.along) u v ≡ true → lists nodes v ≡ true) → result ≡ outside_source_in (dependencies_of p.links) t.0
    outside_is true leads all =
        let found = leads refl in
        let between = along_named p size marked valid Order found.1 found.0 (sym (back_is p size marked valid Order found.0 found.1) ∙ found.3) in
        sym (enters_any ∙ any_of_arrow enters (order_ways (dependencies_of p.links)) between.first.0 between.second.0 (sym (by_order (dependencies_of p.links) between.first.0 between.second.0) ∙ between.there)
        (and_from _ _ (sym (members found.0 between.second between.to) ∙ found.2) (ap not (sym (members found.1 between.first between.from) ∙ found.4))))
    outside_is false leads all = sym (go (outside_source_in (dependencies_of p.links) t.0) refl) where
      go : (b : Bool) → outside_source_in (dependencies_of p.links) t.0 ≡ b → b ≡ false
      go true is =
          let found = arrow_of_any enters (order_ways (dependencies_of p.links)) (sym enters_any ∙ is) in
          let parts = and_parts (linked (class_ways (dependencies_of p.links)) t.0 found.1) (not (linked (class_ways (dependencies_of p.links)) t.0 found.0)) found.3 in
          let seats = named_along p size marked valid Order found.0 found.1 (by_order (dependencies_of p.links) found.0 found.1 ∙ found.2) in
          let inside = all refl seats.second seats.first (members seats.second (record { 0 = found.1 }) seats.to ∙ parts.0) (back_is p size marked valid Order seats.second seats.first ∙ seats.there) in
          absurd (false≢true (ap not (sym inside ∙ members seats.first (record { 0 = found.0 }) seats.from) ∙ parts.1))
      go false is = refl

    -- ---- which sources these are
    module _ (found : List ℕ)
        (leads : (v : ℕ) → lists found v ≡ true → (u : ℕ) × (lists nodes u ≡ true) × (has_arrow (arrows_along (of_kinds Order) p.links p.across p.along) u v ≡ true) × (lists nodes v ≡ false))
        (all : (u v : ℕ) → lists nodes u ≡ true → has_arrow (arrows_along (of_kinds Order) p.links p.across p.along) u v ≡ true → lists nodes v ≡ false → lists found v ≡ true) where
      -- they have seats
      pub found_taken : AreTaken p.seats found
      found_taken v h =
          let by = leads v h in
          ap is_some (along_named p size marked valid Order v by.0 (sym (back_is p size marked valid Order by.0 v) ∙ by.2)).from

      pub valid_outside : (later : ℕ) (outside : Met) → later ≡ size → outside.size ≡ marked.size → outside.nodes ≡ found → IsValid p later outside
      valid_outside later outside same_marks same_size are = record {
        placed = valid.placed;
        sources = valid.sources;
        dependents = valid.dependents;
        within = λ c there. let old = valid.within c there in (old.0, old.1, rw same_marks old.2, rw same_size old.3);
        taken = subst (AreTaken p.seats) (sym are) found_taken;
        single = valid.single;
      }

      -- whether u is n, and v is of the class
      abbrev comes_from : ℕ → ℕ → ℕ → Bool
      comes_from n u v = eqb u n && linked (class_ways (dependencies_of p.links)) t.0 v

      pub found_named : (n : ℕ) → lists (marked_of p.seats found) n ≡ is_outside_source_in (dependencies_of p.links) t.0 n
      unfolding is_outside_source_in is_outside_of
      found_named n = both_follow _ _ to back where
        to : lists (marked_of p.seats found) n ≡ true → (not (linked (class_ways (dependencies_of p.links)) t.0 n) && list_any (λ (arrow : Arrow). comes_from n arrow.0 arrow.1) (order_ways (dependencies_of p.links))) ≡ true
        to h =
            let at = marked_seat p.seats found n found_taken h in
            let by = leads at.0 at.1 in
            let between = along_named p size marked valid Order at.0 by.0 (sym (back_is p size marked valid Order by.0 at.0) ∙ by.2) in
            let is : Some between.first ≡ Some (record { 0 = n }) = sym between.from ∙ at.2 in
            let same : between.first ≡ record { 0 = n } = cc is in
            and_from _ _ (ap not (sym (members at.0 (record { 0 = n }) at.2) ∙ by.3))
            (any_of_arrow (comes_from n) (order_ways (dependencies_of p.links)) between.first.0 between.second.0 (sym (by_order (dependencies_of p.links) between.first.0 between.second.0) ∙ between.there)
            (and_from _ _ (eq-eqb between.first.0 n (ap (λ (u : Txn). u.0) same)) (sym (members by.0 between.second between.to) ∙ by.1)))

        back : (not (linked (class_ways (dependencies_of p.links)) t.0 n) && list_any (λ (arrow : Arrow). comes_from n arrow.0 arrow.1) (order_ways (dependencies_of p.links))) ≡ true → lists (marked_of p.seats found) n ≡ true
        back h =
            let parts = and_parts (not (linked (class_ways (dependencies_of p.links)) t.0 n)) _ h in
            let arrow = arrow_of_any (comes_from n) (order_ways (dependencies_of p.links)) parts.1 in
            let ends = and_parts (eqb arrow.0 n) _ arrow.3 in
            let seats = named_along p size marked valid Order arrow.0 arrow.1 (by_order (dependencies_of p.links) arrow.0 arrow.1 ∙ arrow.2) in
            let from : seat p.seats seats.first ≡ Some (record { 0 = n }) = seats.from ∙ (λ i. Some (record { 0 = eqb-true arrow.0 n ends.0 i })) in
            seat_marked p.seats found seats.first (record { 0 = n }) from
            (all seats.second seats.first (members seats.second (record { 0 = arrow.1 }) seats.to ∙ ends.1) (back_is p size marked valid Order seats.second seats.first ∙ seats.there)
            (members seats.first (record { 0 = n }) from ∙ not-true _ parts.0))
