-- A search along seats: the arrows between seats, and those between the transactions that have them.
use Rattle.std.proofs.Common.{◌≡◌, ℕ, suc, ◌+◌, Bool, true, false, cond, eqb, not, ◌&&◌, ◌||◌, List, [], ◌∷◌, ◌++◌, map, filter, filter_map, get_or, Option, Some, None, is_some, refl, sym, ap, subst, ◌∙◌, arith, inl, inr}
use Rattle.std.specs.Prelude.{unwrap_or, option_map}
use Rattle.std.proofs.lemmas.Bool.{eqb-true, eq-eqb, ne_eqb, eqb-false, true≢false, false_from_ne_true, or_cases, and_from, and_parts}
use Rattle.slab.specs.Slab.{get}
use Rattle.asset_names.specs.declared.names.Txn.{Txn}
use Rattle.asset_names.specs.declared.operations.Op.{Op}
use Rattle.asset_names.specs.Arrows.{Arrow, lists, linked, has_arrow}
use Rattle.asset_names.proofs.Common.{some_of, both_follow}
use Rattle.asset_chains.specs.Chained.{home_of}
use Rattle.asset_seats.specs.Seated.{Seated, seat}
use Rattle.asset_permits.specs.Descriptors.{Descriptor, covers, lets, one_covers, opens_on, lets_all, opens, arrows_for, leads_by, reaches_opener, allows_by}
use Rattle.asset_permits.specs.Valid.{Parts, descriptors_of, IsValid}
use Rattle.asset_marks.specs.Searched.{arrow_between, arrows_from, arrows_along}
use Rattle.asset_marks.proofs.ArrowLemmas.{closed_linked}
use Rattle.asset_permits.proofs.ArrowLaws.{arrows_stand, opener_of, reaches_by_opener}
use Rattle.asset_permits.proofs.SeatLemmas.{home_along, home_at_end}
use Rattle.asset_permits.proofs.SlotLemmas.{any_has, key_of_any, lets_owned, lets_to, lets_all_owned}

-- ---- from seats to transactions
-- who has a seat; 0 stands for nobody
abbrev name_at : Seated → ℕ → ℕ
name_at seats c = unwrap_or (option_map (λ (t : Txn). t.0) (seat seats c)) 0

name_is : (seats : Seated) (c : ℕ) (t : Txn) → seat seats c ≡ Some t → name_at seats c ≡ t.0
name_is seats c t sat = ap (λ (o : Option Txn). unwrap_or (option_map (λ (t : Txn). t.0) o) 0) sat

abbrev IsTaken : Seated → ℕ → Type 0
IsTaken seats c = is_some (seat seats c) ≡ true

-- both ends of each arrow are seats that are taken
abbrev AreTaken : Seated → List Arrow → Type 0
AreTaken seats [] = Unit {0}
AreTaken seats (arrow ∷ arrows) = (IsTaken seats arrow.0 × IsTaken seats arrow.1) × AreTaken seats arrows

abbrev named : Seated → List Arrow → List Arrow
named seats arrows = map (λ (a : Arrow). (name_at seats a.0, name_at seats a.1)) arrows

module _ (seats : Seated) (single : (t : Txn) (c d : ℕ) → seat seats c ≡ Some t → seat seats d ≡ Some t → d ≡ c) where
  one_seat : (c d : ℕ) → IsTaken seats c → IsTaken seats d → eqb (name_at seats c) (name_at seats d) ≡ eqb c d
  one_seat c d here there =
      let t = some_of (seat seats c) here in
      let u = some_of (seat seats d) there in
      go t.0 u.0 t.1 u.1 (eqb c d) refl where
        go : (t u : Txn) → seat seats c ≡ Some t → seat seats d ≡ Some u → (b : Bool) → eqb c d ≡ b → eqb (name_at seats c) (name_at seats d) ≡ b
        go t u sat other true e = eq-eqb (name_at seats c) (name_at seats d) (ap (name_at seats) (eqb-true c d e))
        go t u sat other false e =
            ne_eqb (name_at seats c) (name_at seats d) (λ same.
            let names : t.0 ≡ u.0 = sym (name_is seats c t sat) ∙ same ∙ name_is seats d u other in
            eqb-false c d e (sym (single t c d sat (other ∙ (λ i. Some (record { 0 = sym names i }))))))

  -- names link as their seats do
  linked_named : (arrows : List Arrow) → AreTaken seats arrows → (a b : ℕ) → IsTaken seats a → IsTaken seats b → linked (named seats arrows) (name_at seats a) (name_at seats b) ≡ linked arrows a b
  unfolding linked
  linked_named [] taken a b from to = one_seat a b from to
  linked_named (arrow ∷ arrows) taken a b from to =
      λ m. linked_named arrows taken.1 a b from to m || linked_named arrows taken.1 a arrow.0 from taken.0.0 m && linked_named arrows taken.1 arrow.1 b taken.0.1 to m

named_append : (seats : Seated) (xs ys : List Arrow) → named seats (xs ++ ys) ≡ named seats xs ++ named seats ys
named_append seats [] ys = refl
named_append seats (arrow ∷ xs) ys = ap (λ (l : List Arrow). (name_at seats arrow.0, name_at seats arrow.1) ∷ l) (named_append seats xs ys)

taken_append : (seats : Seated) (xs ys : List Arrow) → AreTaken seats xs → AreTaken seats ys → AreTaken seats (xs ++ ys)
taken_append seats [] ys none taken = taken
taken_append seats (arrow ∷ xs) ys first taken = (first.0, taken_append seats xs ys first.1 taken)

-- a permit's homes are the seats of its two ends
pub record HasEnds (p : Parts) (k : ℕ) (d : Descriptor) : Type 0 where
  pub from : ℕ
  pub to : ℕ
  pub home : home_of p.along k ≡ Some from
  pub end : home_of p.across k ≡ Some to
  pub giver : seat p.seats from ≡ Some (record { 0 = d.giver })
  pub taker : seat p.seats to ≡ Some (record { 0 = d.taker })

pub has_across : (p : Parts) (size : ℕ) → IsValid p size → (k : ℕ) (d : Descriptor) → get p.permits k ≡ Some d → HasEnds p k d
has_across p size valid k d there =
    let home = home_along p k d valid.seated there in
    let end = home_at_end p k d valid.seated there in
    record { from = home.0; to = end.0; home = home.1; end = end.1; giver = valid.given k home.0 d there home.1; taker = valid.taken k end.0 d there end.1 }

module _ (p : Parts) (size : ℕ) (valid : IsValid p size) (x : ℕ) (op : Op) where
  have_first : (k : ℕ) (d : Descriptor) → HasEnds p (k + 0) d → HasEnds p k d
  have_first k d have = subst (λ n. HasEnds p n d) (omega arith) have

  -- the arrows of the permits in the slots have the names of the seats
  abbrev AreNamed : List (Option Descriptor) → ℕ → Type 0
  AreNamed slots k =
      (map (λ (d : Descriptor). (d.giver, d.taker)) (filter (covers x op) (filter_map (λ (slot : Option Descriptor). slot) slots)) ≡ named p.seats (arrows_from (covers x op) p.along p.across k slots))
      × AreTaken p.seats (arrows_from (covers x op) p.along p.across k slots)

  slot_named : (e : Descriptor) (slots : List (Option Descriptor)) (k : ℕ) → HasEnds p k e → AreNamed slots (k + 1) → AreNamed (Some e ∷ slots) k
  slot_named e slots k here rest = (
    one (covers x op e) ∙ sym (named_append p.seats (cond (covers x op e) (arrow_between (home_of p.along k) (home_of p.across k)) []) (arrows_from (covers x op) p.along p.across (k + 1) slots)),
    taken_append p.seats (cond (covers x op e) (arrow_between (home_of p.along k) (home_of p.across k)) []) (arrows_from (covers x op) p.along p.across (k + 1) slots) (first (covers x op e)) rest.1,
  ) where
    arrow : arrow_between (home_of p.along k) (home_of p.across k) ≡ (here.from, here.to) ∷ []
    arrow = λ m. arrow_between (here.home m) (here.end m)

    first : (b : Bool) → AreTaken p.seats (cond b (arrow_between (home_of p.along k) (home_of p.across k)) [])
    first true = subst (AreTaken p.seats) (sym arrow) ((ap is_some here.giver, ap is_some here.taker), tt)
    first false = tt

    one : (b : Bool) → map (λ (d : Descriptor). (d.giver, d.taker)) (cond b (e ∷ filter (covers x op) (filter_map (λ (slot : Option Descriptor). slot) slots)) (filter (covers x op) (filter_map (λ (slot : Option Descriptor). slot) slots)))
        ≡ named p.seats (cond b (arrow_between (home_of p.along k) (home_of p.across k)) []) ++ named p.seats (arrows_from (covers x op) p.along p.across (k + 1) slots)
    one true =
        (λ m. (sym (name_is p.seats here.from (record { 0 = e.giver }) here.giver) m, sym (name_is p.seats here.to (record { 0 = e.taker }) here.taker) m) ∷ rest.0 m)
        ∙ ap (λ (l : List Arrow). named p.seats l ++ named p.seats (arrows_from (covers x op) p.along p.across (k + 1) slots)) (sym arrow)
    one false = rest.0

  slots_named : (slots : List (Option Descriptor)) (k : ℕ) → ((i : ℕ) (d : Descriptor) → get_or slots i None ≡ Some d → HasEnds p (k + i) d)
      → (map (λ (d : Descriptor). (d.giver, d.taker)) (filter (covers x op) (filter_map (λ (slot : Option Descriptor). slot) slots)) ≡ named p.seats (arrows_from (covers x op) p.along p.across k slots))
      × AreTaken p.seats (arrows_from (covers x op) p.along p.across k slots)
  slots_named [] k have = (refl, tt)
  slots_named (None ∷ slots) k have = slots_named slots (k + 1) (λ i d there. subst (λ n. HasEnds p n d) (omega arith) (have (suc i) d there))
  slots_named (Some e ∷ slots) k have = slot_named e slots k (have_first k e (have 0 e refl)) (slots_named slots (k + 1) (λ i d there. subst (λ n. HasEnds p n d) (omega arith) (have (suc i) d there)))

  -- a search along seats says where chains lead
  pub linked_leads : ((t : Txn) (c d : ℕ) → seat p.seats c ≡ Some t → seat p.seats d ≡ Some t → d ≡ c) → (giver taker : Txn) (from to : ℕ) → seat p.seats from ≡ Some giver → seat p.seats to ≡ Some taker
      → linked (arrows_along (covers x op) p.permits p.along p.across) from to ≡ leads_by (descriptors_of p.permits) giver.0 taker.0 x op
  unfolding arrows_along leads_by arrows_for descriptors_of
  linked_leads single giver taker from to sat other =
      let both = slots_named p.permits.slots 0 (λ i d there. subst (λ n. HasEnds p n d) (omega arith) (has_across p size valid i d there)) in
      sym (linked_named p.seats single (arrows_from (covers x op) p.along p.across 0 p.permits.slots) both.1 from to (ap is_some sat) (ap is_some other))
      ∙ (λ m. linked (sym both.0 m) (name_is p.seats from giver sat m) (name_is p.seats to taker other m))

  ends_of_arrow : (u t : ℕ) → has_arrow (arrows_for (descriptors_of p.permits) x op) u t ≡ true
      → ((c : ℕ) × (seat p.seats c ≡ Some (record { 0 = u }))) × ((c : ℕ) × (seat p.seats c ≡ Some (record { 0 = t })))
  unfolding one_covers
  ends_of_arrow u t arrow =
      let found = key_of_any (lets u t x op) p.permits (sym (arrows_stand (descriptors_of p.permits) u t x op) ∙ arrow) in
      let across = has_across p size valid found.0 found.1 found.2 in (
        (across.from, across.giver ∙ (λ m. Some (record { 0 = lets_owned u t x op found.1 found.3 m }))),
        (across.to, across.taker ∙ (λ m. Some (record { 0 = lets_to u t x op found.1 found.3 m }))),
      )

  -- who has no seat leads to itself alone
  leads_nowhere : (giver : Txn) → ((c : ℕ) → seat p.seats c ≡ Some giver → ⊥) → (a : ℕ) → leads_by (descriptors_of p.permits) giver.0 a x op ≡ true → a ≡ giver.0
  unfolding leads_by
  leads_nowhere giver absent a way = eqb-true a giver.0 (closed_linked (λ n. eqb n giver.0) (arrows_for (descriptors_of p.permits) x op) closed giver.0 a way (eq-eqb giver.0 giver.0 refl)) where
    closed : (u t : ℕ) → has_arrow (arrows_for (descriptors_of p.permits) x op) u t ≡ true → eqb u giver.0 ≡ true → eqb t giver.0 ≡ true
    closed u t arrow is = let sat = (ends_of_arrow u t arrow).0 in absurd (absent sat.0 (sat.1 ∙ (λ m. Some (record { 0 = eqb-true u giver.0 is m }))))

  -- an opener has a seat
  pub opener_sits : (a : ℕ) → opens (descriptors_of p.permits) a x op ≡ true → (c : ℕ) × (seat p.seats c ≡ Some (record { 0 = a }))
  unfolding opens
  opener_sits a h =
      let found = key_of_any (lets_all a x op) p.permits h in
      let across = has_across p size valid found.0 found.1 found.2 in
      (across.from, across.giver ∙ (λ m. Some (record { 0 = lets_all_owned a x op found.1 found.3 m })))

  -- one who gives nothing allows no other
  pub gives_nothing : (giver taker : Txn) → ((c : ℕ) → seat p.seats c ≡ Some giver → ⊥) → eqb giver.0 taker.0 ≡ false → allows_by (descriptors_of p.permits) giver.0 taker.0 x op ≡ false
  unfolding allows_by
  gives_nothing giver taker absent another =
      false_from_ne_true _ (λ allowed. elim (or_cases (leads_by (descriptors_of p.permits) giver.0 taker.0 x op) _ allowed) [
        | inl way ↦ true≢false (sym (eq-eqb giver.0 taker.0 (sym (leads_nowhere giver absent taker.0 way))) ∙ another)
        | inr reaches ↦
            let found = opener_of (descriptors_of p.permits) giver.0 x op reaches in
            let sat = opener_sits found.0 found.1 in
            absent sat.0 (sat.1 ∙ (λ m. Some (record { 0 = leads_nowhere giver absent found.0 found.2 m })))
      ])

  -- to one who takes nothing no other leads
  pub nothing_leads : (giver taker : Txn) → ((c : ℕ) → seat p.seats c ≡ Some taker → ⊥) → eqb giver.0 taker.0 ≡ false → leads_by (descriptors_of p.permits) giver.0 taker.0 x op ≡ false
  unfolding leads_by
  nothing_leads giver taker absent another =
      false_from_ne_true _ (λ way. true≢false (sym (closed_linked (λ n. not (eqb n taker.0)) (arrows_for (descriptors_of p.permits) x op) closed giver.0 taker.0 way (ap not another)) ∙ ap not (eq-eqb taker.0 taker.0 refl))) where
        closed : (u t : ℕ) → has_arrow (arrows_for (descriptors_of p.permits) x op) u t ≡ true → not (eqb u taker.0) ≡ true → not (eqb t taker.0) ≡ true
        closed u t arrow other =
            ap not (false_from_ne_true (eqb t taker.0) (λ is. let sat = (ends_of_arrow u t arrow).1 in absent sat.0 (sat.1 ∙ (λ m. Some (record { 0 = eqb-true t taker.0 is m })))))

  -- one who takes nothing is allowed by those who lead to an opener
  pub takes_nothing : (giver taker : Txn) → ((c : ℕ) → seat p.seats c ≡ Some taker → ⊥) → eqb giver.0 taker.0 ≡ false → allows_by (descriptors_of p.permits) giver.0 taker.0 x op ≡ reaches_opener (descriptors_of p.permits) giver.0 x op
  unfolding allows_by
  takes_nothing giver taker absent another = ap (λ b. b || reaches_opener (descriptors_of p.permits) giver.0 x op) (nothing_leads giver taker absent another)

  -- what a search from the giver has met says whether it leads to an opener
  pub reaches_met : ((t : Txn) (c d : ℕ) → seat p.seats c ≡ Some t → seat p.seats d ≡ Some t → d ≡ c) → (giver : Txn) (from : ℕ) → seat p.seats from ≡ Some giver → (nodes : List ℕ)
      → ((n : ℕ) → lists nodes n ≡ linked (arrows_along (covers x op) p.permits p.along p.across) from n) → (result : Bool)
      → (result ≡ true → (c : ℕ) × (lists nodes c ≡ true) × ((k : ℕ) × (d : Descriptor) × (home_of p.along k ≡ Some c) × (get p.permits k ≡ Some d) × (opens_on x op d ≡ true)))
      → (result ≡ false → (c k : ℕ) (d : Descriptor) → lists nodes c ≡ true → home_of p.along k ≡ Some c → get p.permits k ≡ Some d → opens_on x op d ≡ false) → result ≡ reaches_opener (descriptors_of p.permits) giver.0 x op
  unfolding opens lets_all
  reaches_met single giver from sat nodes met result found none = both_follow result _ to back where
    leads_at : (c : ℕ) (u : Txn) → seat p.seats c ≡ Some u → lists nodes c ≡ leads_by (descriptors_of p.permits) giver.0 u.0 x op
    leads_at c u sits = met c ∙ linked_leads single giver u from c sat sits

    to : result ≡ true → reaches_opener (descriptors_of p.permits) giver.0 x op ≡ true
    to h =
        let at = found h in
        let permit = at.2 in
        let d = permit.1 in
        let opener : opens (descriptors_of p.permits) d.giver x op ≡ true = any_has (lets_all d.giver x op) p.permits permit.0 d permit.3 (and_from _ _ (eq-eqb d.giver d.giver refl) permit.4) in
        reaches_by_opener (descriptors_of p.permits) giver.0 d.giver x op opener (sym (leads_at at.0 (record { 0 = d.giver }) (valid.given permit.0 at.0 d permit.3 permit.2)) ∙ at.1)

    closed : reaches_opener (descriptors_of p.permits) giver.0 x op ≡ true → result ≡ false → ⊥
    closed h is =
        let opener = opener_of (descriptors_of p.permits) giver.0 x op h in
        let at = key_of_any (lets_all opener.0 x op) p.permits opener.1 in
        let across = has_across p size valid at.0 at.1 at.2 in
        let both = and_parts _ _ at.3 in
        let named = eqb-true at.1.giver opener.0 both.0 in
        let listed = leads_at across.from (record { 0 = at.1.giver }) across.giver ∙ ap (λ n. leads_by (descriptors_of p.permits) giver.0 n x op) named ∙ opener.2 in
        true≢false (sym both.1 ∙ none is across.from at.0 at.1 listed across.home at.2)

    back : reaches_opener (descriptors_of p.permits) giver.0 x op ≡ true → result ≡ true
    back h = go result refl where
      go : (b : Bool) → result ≡ b → result ≡ true
      go true is = is
      go false is = absurd (closed h is)
