-- Who is enrolled and who is marked, by the seats.
use Rattle.std.proofs.Common.{◌≡◌, ℕ, zero, suc, Bool, true, false, cond, eqb, not, ◌&&◌, ◌||◌, List, [], ◌∷◌, ◌++◌, map, get_or, filter_map, Option, Some, None, is_some, refl, sym, ap, subst, ◌∙◌, inl, inr}
use Rattle.std.specs.Prelude.{unwrap_or, option_map, slice_get, IfNone, IfSome, IsSome}
use Rattle.std.specs.List.{IsDistinct}
use Rattle.std.proofs.lemmas.Bool.{or_cases, or_left, or_right, and_from, and_parts, eqb-true, eqb-false, eq-eqb, ne_eqb, true≢false, false≢true}
use Rattle.asset_names.specs.declared.names.Txn.{Txn}
use Rattle.asset_names.specs.Arrows.{lists}
use Rattle.asset_names.proofs.Common.{eqb-flip, some_of, one_txn, both_follow}
use Rattle.asset_chains.specs.Chained.{lists as lists_key}
use Rattle.asset_chains.proofs.Walks.{distinct_map}
use Rattle.asset_seats.specs.Seated.{Seated, seat}
use Rattle.asset_marks.proofs.WalkLemmas.{lists_left, lists_right, one_listed}
use Rattle.std.proofs.lemmas.List.{map-append}
use Rattle.asset_deps.specs.Valid.{names_of, name_at, marked_of, AreTaken}

-- ---- who is enrolled
abbrev in_seats : List (Option Txn) → List ℕ
in_seats slots = filter_map (λ (slot : Option Txn). option_map (λ (t : Txn). t.0) slot) slots

slot_named : (slots : List (Option Txn)) (n : ℕ) → lists (in_seats slots) n ≡ true → (c : ℕ) × (get_or slots c None ≡ Some (record { 0 = n }))
unfolding lists
slot_named [] n h = absurd (false≢true h)
slot_named (None ∷ slots) n h = let found = slot_named slots n h in (suc found.0, found.1)
slot_named (Some t ∷ slots) n h = elim (or_cases (eqb t.0 n) _ h) [
  | inl here ↦ (0, λ i. Some (record { 0 = eqb-true t.0 n here i }))
  | inr later ↦ let found = slot_named slots n later in (suc found.0, found.1)
]

named_slot : (slots : List (Option Txn)) (c : ℕ) (t : Txn) → get_or slots c None ≡ Some t → lists (in_seats slots) t.0 ≡ true
unfolding lists
named_slot [] c t there = cc there
named_slot (None ∷ slots) zero t there = cc there
named_slot (None ∷ slots) (suc c) t there = named_slot slots c t there
named_slot (Some u ∷ slots) zero t there = let same : u ≡ t = cc there in or_left (eqb u.0 t.0) _ (eq-eqb u.0 t.0 (ap (λ (v : Txn). v.0) same))
named_slot (Some u ∷ slots) (suc c) t there = or_right (eqb u.0 t.0) _ (named_slot slots c t there)

-- who is enrolled has a seat, and who has a seat is enrolled
pub seat_named : (seats : Seated) (n : ℕ) → lists (names_of seats) n ≡ true → (c : ℕ) × (seat seats c ≡ Some (record { 0 = n }))
unfolding names_of seat
seat_named seats n h = slot_named seats.slots n h

pub named_seat : (seats : Seated) (c : ℕ) (t : Txn) → seat seats c ≡ Some t → lists (names_of seats) t.0 ≡ true
unfolding names_of seat
named_seat seats c t sat = named_slot seats.slots c t sat

pub nobody_named : (seats : Seated) (t : Txn) → ((c : ℕ) → seat seats c ≡ Some t → ⊥) → lists (names_of seats) t.0 ≡ false
nobody_named seats t absent = go (lists (names_of seats) t.0) refl where
  go : (b : Bool) → lists (names_of seats) t.0 ≡ b → b ≡ false
  go true is = let found = seat_named seats t.0 is in absurd (absent found.0 found.1)
  go false is = refl

pub not_named : (seats : Seated) (t : Txn) → lists (names_of seats) t.0 ≡ false → (c : ℕ) → seat seats c ≡ Some t → ⊥
not_named seats t absent c sat = true≢false (sym (named_seat seats c t sat) ∙ absent)

-- the same seats, the same names
slots_same : (slots more : List (Option Txn)) → ((c : ℕ) → get_or more c None ≡ get_or slots c None) → in_seats more ≡ in_seats slots
slots_same [] [] same = refl
slots_same [] (None ∷ more) same = slots_same [] more (λ c. same (suc c))
slots_same [] (Some t ∷ more) same = let wrong : Some t ≡ None = same 0 in cc wrong
slots_same (None ∷ slots) [] same = slots_same slots [] (λ c. same (suc c))
slots_same (Some t ∷ slots) [] same = let wrong : None ≡ Some t = same 0 in cc wrong
slots_same (x ∷ slots) (y ∷ more) same = head x y (same 0) (slots_same slots more (λ c. same (suc c))) where
  head : (x y : Option Txn) → y ≡ x → in_seats more ≡ in_seats slots → in_seats (y ∷ more) ≡ in_seats (x ∷ slots)
  head None None is rest = rest
  head None (Some t) is rest = cc is
  head (Some t) None is rest = cc is
  head (Some t) (Some u) is rest = let one : u ≡ t = cc is in (λ i. (one i).0 ∷ rest i)

pub names_same : (old new : Seated) → ((c : ℕ) → seat new c ≡ seat old c) → names_of new ≡ names_of old
unfolding names_of seat
names_same old new same = slots_same old.slots new.slots same

-- one more is enrolled
pub names_enrolled : (old new : Seated) (s : ℕ) (t : Txn) → seat old s ≡ None → ((c : ℕ) → seat new c ≡ cond (eqb c s) (Some t) (seat old c)) → (n : ℕ) → lists (names_of new) n ≡ (lists (names_of old) n || eqb n t.0)
names_enrolled old new s t free sits n = both_follow _ _ to back where
  to : lists (names_of new) n ≡ true → (lists (names_of old) n || eqb n t.0) ≡ true
  to h =
      let found = seat_named new n h in
      go found.0 (eqb found.0 s) refl found.1 where
        go : (c : ℕ) (b : Bool) → eqb c s ≡ b → seat new c ≡ Some (record { 0 = n }) → (lists (names_of old) n || eqb n t.0) ≡ true
        go c true at sat =
            let same : Some t ≡ Some (record { 0 = n }) = sym (sits c ∙ ap (λ b. cond b (Some t) (seat old c)) at) ∙ sat in
            let one : t ≡ record { 0 = n } = cc same in
            or_right (lists (names_of old) n) _ (eq-eqb n t.0 (ap (λ (u : Txn). u.0) (sym one)))
        go c false at sat = or_left _ _ (named_seat old c (record { 0 = n }) (sym (sits c ∙ ap (λ b. cond b (Some t) (seat old c)) at) ∙ sat))

  back : (lists (names_of old) n || eqb n t.0) ≡ true → lists (names_of new) n ≡ true
  back h = elim (or_cases (lists (names_of old) n) (eqb n t.0) h) [
    | inl was ↦
        let found = seat_named old n was in
        let apart : found.0 ≡ s → ⊥ = λ is. cc (sym free ∙ ap (seat old) (sym is) ∙ found.1) in
        named_seat new found.0 (record { 0 = n }) (sits found.0 ∙ ap (λ b. cond b (Some t) (seat old found.0)) (ne_eqb found.0 s apart) ∙ found.1)
    | inr is ↦ subst (λ k. lists (names_of new) k ≡ true) (sym (eqb-true n t.0 is)) (named_seat new s t (sits s ∙ ap (λ b. cond b (Some t) (seat old s)) (eq-eqb s s refl)))
  ]

-- one is enrolled no longer
pub names_left : (old new : Seated) (s : ℕ) (t : Txn) → seat old s ≡ Some t → ((c : ℕ) → seat old c ≡ Some t → c ≡ s) → ((c : ℕ) → seat new c ≡ cond (eqb c s) None (seat old c)) → (n : ℕ) → lists (names_of new) n ≡ (lists (names_of old) n && not (eqb n t.0))
names_left old new s t sat alone leaves n = both_follow _ _ to back where
  to : lists (names_of new) n ≡ true → (lists (names_of old) n && not (eqb n t.0)) ≡ true
  to h =
      let found = seat_named new n h in
      go found.0 (eqb found.0 s) refl found.1 where
        go : (c : ℕ) (b : Bool) → eqb c s ≡ b → seat new c ≡ Some (record { 0 = n }) → (lists (names_of old) n && not (eqb n t.0)) ≡ true
        go c true at there = let none : None ≡ Some (record { 0 = n }) = sym (leaves c ∙ ap (λ b. cond b None (seat old c)) at) ∙ there in cc none
        go c false at there =
            let was : seat old c ≡ Some (record { 0 = n }) = sym (leaves c ∙ ap (λ b. cond b None (seat old c)) at) ∙ there in
            and_from _ _ (named_seat old c (record { 0 = n }) was) (ap not (ne_eqb n t.0 (λ same. eqb-false c s at (alone c (was ∙ ap Some (one_txn (record { 0 = n }) t same))))))

  back : (lists (names_of old) n && not (eqb n t.0)) ≡ true → lists (names_of new) n ≡ true
  back h =
      let both = and_parts (lists (names_of old) n) (not (eqb n t.0)) h in
      let found = seat_named old n both.0 in
      let apart : found.0 ≡ s → ⊥ = λ is. differs (let same : Some (record { 0 = n }) ≡ Some t = sym found.1 ∙ ap (seat old) is ∙ sat in cc same) both.1 in
      named_seat new found.0 (record { 0 = n }) (leaves found.0 ∙ ap (λ b. cond b None (seat old found.0)) (ne_eqb found.0 s apart) ∙ found.1) where
        differs : record { 0 = n } ≡ t → not (eqb n t.0) ≡ true → ⊥
        differs same other = false≢true (ap not (sym (eq-eqb n t.0 (ap (λ (u : Txn). u.0) same))) ∙ other)

pub names_not_left : (seats : Seated) (t : Txn) (n : ℕ) → ((c : ℕ) → seat seats c ≡ Some t → ⊥) → lists (names_of seats) n ≡ (lists (names_of seats) n && not (eqb n t.0))
names_not_left seats t n absent = go (lists (names_of seats) n) (eqb n t.0) refl refl where
  go : (l b : Bool) → lists (names_of seats) n ≡ l → eqb n t.0 ≡ b → l ≡ (l && not b)
  go true true is at = absurd (true≢false (sym is ∙ ap (lists (names_of seats)) (eqb-true n t.0 at) ∙ nobody_named seats t absent))
  go true false is at = refl
  go false true is at = refl
  go false false is at = refl

-- ---- who is marked
pub name_is : (seats : Seated) (c : ℕ) (t : Txn) → seat seats c ≡ Some t → name_at seats c ≡ t.0
unfolding name_at
name_is seats c t sat = ap (λ (o : Option Txn). unwrap_or (option_map (λ (t : Txn). t.0) o) 0) sat

node_named : (f : ℕ → ℕ) (nodes : List ℕ) (n : ℕ) → lists (map f nodes) n ≡ true → (c : ℕ) × (lists nodes c ≡ true) × (f c ≡ n)
unfolding lists
node_named f [] n h = absurd (false≢true h)
node_named f (c ∷ nodes) n h = elim (or_cases (eqb (f c) n) _ h) [
  | inl here ↦ (c, or_left (eqb c c) _ (eq-eqb c c refl), eqb-true (f c) n here)
  | inr later ↦ let found = node_named f nodes n later in (found.0, or_right (eqb c found.0) _ found.1, found.2)
]

named_node : (f : ℕ → ℕ) (nodes : List ℕ) (c : ℕ) → lists nodes c ≡ true → lists (map f nodes) (f c) ≡ true
unfolding lists
named_node f [] c h = absurd (false≢true h)
named_node f (d ∷ nodes) c h = elim (or_cases (eqb d c) _ h) [
  | inl here ↦ or_left (eqb (f d) (f c)) _ (eq-eqb (f d) (f c) (ap f (eqb-true d c here)))
  | inr later ↦ or_right (eqb (f d) (f c)) _ (named_node f nodes c later)
]

map_alike : (f g : ℕ → ℕ) (nodes : List ℕ) → ((c : ℕ) → lists nodes c ≡ true → f c ≡ g c) → map f nodes ≡ map g nodes
unfolding lists
map_alike f g [] same = refl
map_alike f g (c ∷ nodes) same = λ i. same c (or_left (eqb c c) _ (eq-eqb c c refl)) i ∷ map_alike f g nodes (λ d there. same d (or_right (eqb c d) _ there)) i

-- a name that is marked is that of a seat that is marked
pub marked_seat : (seats : Seated) (nodes : List ℕ) (n : ℕ) → AreTaken seats nodes → lists (marked_of seats nodes) n ≡ true → (c : ℕ) × (lists nodes c ≡ true) × (seat seats c ≡ Some (record { 0 = n }))
unfolding marked_of
marked_seat seats nodes n taken h =
    let found = node_named (name_at seats) nodes n h in
    let sat = some_of (seat seats found.0) (taken found.0 found.1) in
    (found.0, found.1, sat.1 ∙ ap Some (one_txn sat.0 (record { 0 = n }) (sym (name_is seats found.0 sat.0 sat.1) ∙ found.2)))

pub seat_marked : (seats : Seated) (nodes : List ℕ) (c : ℕ) (t : Txn) → seat seats c ≡ Some t → lists nodes c ≡ true → lists (marked_of seats nodes) t.0 ≡ true
unfolding marked_of
seat_marked seats nodes c t sat listed = ap (lists (map (name_at seats) nodes)) (sym (name_is seats c t sat)) ∙ named_node (name_at seats) nodes c listed

-- a transaction is marked where its seat is
pub marked_is : (seats : Seated) (nodes : List ℕ) (c : ℕ) (t : Txn) → AreTaken seats nodes → seat seats c ≡ Some t → ((d : ℕ) → seat seats d ≡ Some t → d ≡ c) → lists nodes c ≡ lists (marked_of seats nodes) t.0
marked_is seats nodes c t taken sat alone = both_follow _ _ (seat_marked seats nodes c t sat) (λ h.
    let found = marked_seat seats nodes t.0 taken h in
    subst (λ d. lists nodes d ≡ true) (alone found.0 found.2) found.1)

pub nobody_marked : (seats : Seated) (nodes : List ℕ) (t : Txn) → AreTaken seats nodes → ((c : ℕ) → seat seats c ≡ Some t → ⊥) → lists (marked_of seats nodes) t.0 ≡ false
nobody_marked seats nodes t taken absent = go (lists (marked_of seats nodes) t.0) refl where
  go : (b : Bool) → lists (marked_of seats nodes) t.0 ≡ b → b ≡ false
  go true is = let found = marked_seat seats nodes t.0 taken is in absurd (absent found.0 found.2)
  go false is = refl

-- who is marked is enrolled
pub marked_enrolled : (seats : Seated) (nodes : List ℕ) (n : ℕ) → AreTaken seats nodes → lists (marked_of seats nodes) n ≡ true → lists (names_of seats) n ≡ true
marked_enrolled seats nodes n taken h = let found = marked_seat seats nodes n taken h in named_seat seats found.0 (record { 0 = n }) found.2

-- the same seats of those who are marked, the same marked
pub marked_same : (old new : Seated) (nodes : List ℕ) → ((c : ℕ) → lists nodes c ≡ true → seat new c ≡ seat old c) → marked_of new nodes ≡ marked_of old nodes
unfolding marked_of name_at
marked_same old new nodes same = map_alike _ _ nodes (λ c there. ap (λ (o : Option Txn). unwrap_or (option_map (λ (t : Txn). t.0) o) 0) (same c there))

-- none is marked twice
flipped : (keys : List ℕ) (k : ℕ) → lists_key keys k ≡ true → lists keys k ≡ true
unfolding lists
flipped [] k h = h
flipped (c ∷ keys) k h = elim (or_cases (eqb k c) _ h) [
  | inl here ↦ or_left (eqb c k) _ (eqb-flip c k ∙ here)
  | inr later ↦ or_right (eqb c k) _ (flipped keys k later)
]

pub marked_once : (seats : Seated) (nodes : List ℕ) → AreTaken seats nodes → ((t : Txn) (c d : ℕ) → seat seats c ≡ Some t → seat seats d ≡ Some t → d ≡ c) → IsDistinct eqb nodes → IsDistinct eqb (marked_of seats nodes)
unfolding marked_of
marked_once seats nodes taken one once = distinct_map (name_at seats) nodes once (λ j k first second same.
    let t = some_of (seat seats j) (taken j (flipped nodes j first)) in
    let u = some_of (seat seats k) (taken k (flipped nodes k second)) in
    let is : u.0 ≡ t.0 = one_txn u.0 t.0 (sym (name_is seats k u.0 u.1) ∙ sym same ∙ name_is seats j t.0 t.1) in
    one t.0 k j (u.1 ∙ ap Some is) t.1)

-- what is not absent is there
pub some_unless : {X P : Type 0} (o : Option X) → IfNone o P → (P → ⊥) → IsSome o
some_unless None absent refuted = absurd (refuted absent)
some_unless (Some x) absent refuted = refl

-- ---- the marked by their number
node_at : (f : ℕ → ℕ) (nodes : List ℕ) (i : ℕ) → slice_get (map f nodes) i ≡ option_map f (slice_get nodes i)
node_at f [] i = refl
node_at f (c ∷ nodes) zero = refl
node_at f (c ∷ nodes) (suc i) = node_at f nodes i

listed_node : (nodes : List ℕ) (i c : ℕ) → slice_get nodes i ≡ Some c → lists nodes c ≡ true
unfolding lists
listed_node [] i c at = cc at
listed_node (d ∷ nodes) zero c at = let is : d ≡ c = cc at in or_left (eqb d c) _ (eq-eqb d c is)
listed_node (d ∷ nodes) (suc i) c at = or_right (eqb d c) _ (listed_node nodes i c at)

pub marked_at : (seats : Seated) (nodes : List ℕ) (i c : ℕ) (o : Option Txn) → AreTaken seats nodes → slice_get nodes i ≡ Some c → o ≡ seat seats c → option_map (λ (t : Txn). t.0) o ≡ slice_get (marked_of seats nodes) i
unfolding marked_of name_at
marked_at seats nodes i c o taken at is =
    ap (option_map (λ (t : Txn). t.0)) is
    ∙ named (seat seats c) (taken c (listed_node nodes i c at))
    ∙ sym (node_at (λ c. unwrap_or (option_map (λ (t : Txn). t.0) (seat seats c)) 0) nodes i ∙ ap (option_map (λ c. unwrap_or (option_map (λ (t : Txn). t.0) (seat seats c)) 0)) at) where
      named : (o : Option Txn) → is_some o ≡ true → option_map (λ (t : Txn). t.0) o ≡ Some (unwrap_or (option_map (λ (t : Txn). t.0) o) 0)
      named None some = absurd (false≢true some)
      named (Some t) some = refl

pub marked_past : (seats : Seated) (nodes : List ℕ) (i : ℕ) → slice_get nodes i ≡ None → None ≡ slice_get (marked_of seats nodes) i
unfolding marked_of
marked_past seats nodes i past = sym (node_at (name_at seats) nodes i ∙ ap (option_map (name_at seats)) past)

-- ---- whether there is a seat
pub named_if_sat : (seats : Seated) (t : Txn) (o : Option ℕ) → IfSome o (λ c. (seat seats c ≡ Some t) × ((d : ℕ) → seat seats d ≡ Some t → d ≡ c)) → IfNone o ((c : ℕ) → seat seats c ≡ Some t → ⊥) → is_some o ≡ lists (names_of seats) t.0
named_if_sat seats t None found absent = sym (nobody_named seats t absent)
named_if_sat seats t (Some c) found absent = sym (named_seat seats c t found.0)

pub absent_unless : {X P : Type 0} (o : Option X) → IfNone o P → is_some o ≡ false → P
absent_unless None absent none = absent
absent_unless (Some x) absent none = absurd (true≢false none)

-- what holds in any case
pub on_any_none : {X P : Type 0} (o : Option X) → P → IfNone o P
on_any_none None p = p
on_any_none (Some x) p = tt

-- ---- the mark that was made last is taken away
pub taken_before : (seats : Seated) (nodes fewer : List ℕ) (c : ℕ) → AreTaken seats nodes → nodes ≡ fewer ++ c ∷ [] → AreTaken seats fewer
taken_before seats nodes fewer c taken is d listed = taken d (ap (λ (l : List ℕ). lists l d) is ∙ lists_left fewer (c ∷ []) d listed)

pub popped : (seats : Seated) (nodes fewer : List ℕ) (c : ℕ) (o : Option Txn) → AreTaken seats nodes → ((t : Txn) (c d : ℕ) → seat seats c ≡ Some t → seat seats d ≡ Some t → d ≡ c) → nodes ≡ fewer ++ c ∷ [] → lists fewer c ≡ false → o ≡ seat seats c
    → IfSome o (λ u. (marked_of seats nodes ≡ marked_of seats fewer ++ u.0 ∷ []) × (lists (marked_of seats fewer) u.0 ≡ false))
unfolding marked_of
popped seats nodes fewer c None taken one is alone at = tt
popped seats nodes fewer c (Some u) taken one is alone at = (all, sym (marked_is seats fewer c u (taken_before seats nodes fewer c taken is) (sym at) (λ d there. one u c d (sym at) there)) ∙ alone) where
  all : marked_of seats nodes ≡ marked_of seats fewer ++ u.0 ∷ []
  all = ap (map (name_at seats)) is ∙ map-append (name_at seats) fewer (c ∷ []) ∙ ap (λ n. map (name_at seats) fewer ++ n ∷ []) (name_is seats c u (sym at))

pub taken_last : (seats : Seated) (nodes fewer : List ℕ) (c : ℕ) → AreTaken seats nodes → nodes ≡ fewer ++ c ∷ [] → is_some (seat seats c) ≡ true
taken_last seats nodes fewer c taken is = taken c (ap (λ (l : List ℕ). lists l c) is ∙ lists_right fewer (c ∷ []) c (one_listed c))

pub nothing_marked : (seats : Seated) (nodes : List ℕ) → nodes ≡ [] → marked_of seats nodes ≡ []
unfolding marked_of
nothing_marked seats nodes none = ap (map (name_at seats)) none

-- the marked stay as one more sits down
pub marked_kept : (old mid new : Seated) (nodes : List ℕ) (s : ℕ) (t : Txn) → AreTaken old nodes → ((c : ℕ) → seat mid c ≡ seat old c) → seat mid s ≡ None → ((c : ℕ) → seat new c ≡ cond (eqb c s) (Some t) (seat mid c)) → marked_of new nodes ≡ marked_of old nodes
marked_kept old mid new nodes s t taken same free sits = marked_same old new nodes (λ c listed.
    sits c
    ∙ ap (λ b. cond b (Some t) (seat mid c)) (ne_eqb c s (λ is. true≢false (sym (taken c listed) ∙ ap is_some (sym (same c) ∙ ap (seat mid) is ∙ free))))
    ∙ same c)
