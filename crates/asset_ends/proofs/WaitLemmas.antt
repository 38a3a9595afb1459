-- Because of whom a transaction waits, by the tables and by the history.
use Rattle.std.proofs.Common.{◌≡◌, ◌≢◌, ℕ, ◌+◌, Bool, true, false, not, eqb, ◌&&◌, ◌||◌, List, [], ◌∷◌, take, Option, Some, None, is_some, refl, sym, ◌∙◌, ap, inl, inr, arith}
use Rattle.std.specs.Prelude.{slice_get, Result, Ok, Err, IfOk}
use Rattle.std.specs.List.{list_any}
use Rattle.std.proofs.lemmas.List.Folds.{list_any_more}
use Rattle.std.proofs.lemmas.Option.{slice_get_within, get_or_from_slice_get}
use Rattle.std.proofs.lemmas.Bool.{or_cases, or_left, or_right, and_parts, and_from, eqb-true, not-true, true≢false}
use Rattle.asset_names.specs.declared.names.Txn.{Txn}
use Rattle.asset_names.specs.declared.operations.Op.{Op}
use Rattle.asset_names.specs.declared.operations.Op.TheVariants as Op'
use Rattle.asset_names.specs.declared.steps.Step.{Step}
use Rattle.asset_names.specs.Arrows.{Arrow, lists, linked, has_arrow, among}
use Rattle.asset_names.specs.Answers.{is_completed}
use Rattle.asset_names.specs.Endings.{live, status, is_live_status, same_class, class_arrows, order_arrows}
use Rattle.asset_names.specs.Operations.{conflict, holds, allows}
use Rattle.asset_names.proofs.Common.{both_follow}
use Rattle.asset_names.proofs.PermitLemmas.{linked_same}
use Rattle.asset_seats.specs.Seated.{Seated, seat}
use Rattle.asset_locks.specs.LockTable.{LockTable, carries, enrolled_in, names_in}
use Rattle.asset_lock_store.specs.LockRules.{carries_on}
use Rattle.asset_locks.specs.Blocking.{is_blocker_in, request_of, request_in}
use Rattle.asset_permits.specs.Descriptors.{Descriptor}
use Rattle.asset_ends.specs.Standing.{allows_in}
use Rattle.asset_deps.specs.Dependencies.{Dependency, class_ways, order_ways, class_in, is_outside_of, is_outside_source_in}
use Rattle.asset_deps.proofs.OutsideLemmas.{arrow_of_any, any_of_arrow}
use Rattle.asset_trans.specs.TransRows.{NamedTransRow, status_in, seat_in}
use Rattle.asset_objects.specs.Cells.{Cells}
use Rattle.asset_ends.specs.Shows.{Shows, table_values}
use Rattle.asset_ends.specs.Standing.{AreEnrolled, LiveAreSeated}
use Rattle.asset_ends.specs.Waits.{holds_against, is_blocker, is_unfinished, is_outside_source}
use Rattle.asset_ends.proofs.DependLaws.{class_arrow, order_arrow, class_shown}
use Rattle.asset_ends.proofs.EnrolledLemmas.{enrolled_named}
use Rattle.asset_ends.proofs.LockLaws.{blocker_carries, carrier_blocks}
use Rattle.asset_ends.proofs.ShowsLemmas.{allows_shown, live_shown}

pub if_ok_as : {X Y : Type 0} {P Q : X → Type 0} (r : Result X Y) → ((x : X) → P x → Q x) → IfOk r P → IfOk r Q
if_ok_as (Ok x) f p = f x p
if_ok_as (Err y) f p = tt

-- ---- who is marked and looked for
pub any_passes : (b : Bool) → (b && true) ≡ b
any_passes true = refl
any_passes false = refl

listed_next : (names : List ℕ) (i n u : ℕ) → slice_get names i ≡ Some n → lists (take (i + 1) names) u ≡ (lists (take i names) u || eqb n u)
unfolding lists
listed_next names i n u there =
    list_any_more (λ m. eqb m u) names i n (slice_get_within names i n there)
    ∙ ap (λ (m : ℕ). list_any (λ k. eqb k u) (take i names) || eqb m u) (get_or_from_slice_get names i n n there)

-- one more is passed
pub sought_next : (sought : ℕ → Bool) (names found later : List ℕ) (i n : ℕ) → slice_get names i ≡ Some n → ((u : ℕ) → lists found u ≡ (lists (take i names) u && sought u)) → ((u : ℕ) → lists later u ≡ ((eqb n u && sought n) || lists found u))
    → (u : ℕ) → lists later u ≡ (lists (take (i + 1) names) u && sought u)
sought_next sought names found later i n there before added u =
    added u
    ∙ (λ i. same_sought (eqb n u) refl i || before u i)
    ∙ either (eqb n u) (lists (take i names) u) (sought u)
    ∙ sym (ap (λ (b : Bool). b && sought u) (listed_next names i n u there)) where
      same_sought : (same : Bool) → eqb n u ≡ same → (eqb n u && sought n) ≡ (eqb n u && sought u)
      same_sought true e = ap (λ (k : ℕ). eqb n u && sought k) (eqb-true n u e)
      same_sought false e = (λ i. e i && sought n) ∙ sym (λ i. e i && sought u)

      either : (a b c : Bool) → ((a && c) || (b && c)) ≡ ((b || a) && c)
      either a b c = grind arith

-- ---- whose request waits
none_of : {X : Type 0} (o : Option X) → is_some o ≡ false → o ≡ None
none_of None e = refl
none_of (Some x) e = absurd (true≢false e)

-- nobody's who is not live
pub no_request : (rows : List NamedTransRow) (seats : Seated) (table : LockTable) (t : Txn) → AreEnrolled rows table → LiveAreSeated rows seats → ((c : ℕ) → seat seats c ≢ Some t) → None ≡ request_in table t.0
unfolding AreEnrolled request_in request_of enrolled_in names_in
no_request rows seats table t enrolled seated absent = sym (ap request_of (none_of (enrolled_in table t.0) (enrolled_named table t.0 ∙ enrolled t.0 ∙ dead (is_live_status (status_in rows t.0)) refl))) where
  dead : (b : Bool) → is_live_status (status_in rows t.0) ≡ b → is_live_status (status_in rows t.0) ≡ false
  dead true e = absurd (absent (seat_in rows t.0) (seated.seated t e))
  dead false e = e

-- ---- what a lock carries
carrier_named : (table : LockTable) (t x : ℕ) (op : Op) → carries table t x op ≡ true → lists (names_in table) t ≡ true
unfolding carries names_in lists
carrier_named [] t x op h = h
carrier_named (who ∷ table) t x op h = elim (or_cases (eqb who.name t && list_any (carries_on x op) who.locks) _ h) [
  | inl here ↦ or_left _ _ (and_parts (eqb who.name t) _ here).0
  | inr later ↦ or_right (eqb who.name t) _ (carrier_named table t x op later)
]

-- nobody's who is not live
pub carries_no_more : (rows : List NamedTransRow) (seats : Seated) (table : LockTable) (t : Txn) (x : ℕ) (op : Op) → AreEnrolled rows table → LiveAreSeated rows seats → ((c : ℕ) → seat seats c ≢ Some t) → false ≡ carries table t.0 x op
unfolding AreEnrolled
carries_no_more rows seats table t x op enrolled seated absent = go (carries table t.0 x op) refl where
  go : (b : Bool) → carries table t.0 x op ≡ b → false ≡ b
  go true e = absurd (absent (seat_in rows t.0) (seated.seated t (sym (enrolled t.0) ∙ carrier_named table t.0 x op e)))
  go false e = refl

-- ---- who blocks a request
-- by whom the object is carried, and by whom held
held_one : (table : LockTable) (steps : List Step) (u x : ℕ) (op other : Op) → ((o : Op) → carries table u x o ≡ holds steps u x o) → carries table u x other ≡ true → conflict other op ≡ true → holds_against steps u x op ≡ true
unfolding holds_against
held_one table steps u x op Op'.Read same held conflicts = or_left _ _ (or_left _ _ (and_from _ _ (sym (same Op'.Read) ∙ held) conflicts))
held_one table steps u x op Op'.Write same held conflicts = or_left _ _ (or_right _ _ (and_from _ _ (sym (same Op'.Write) ∙ held) conflicts))
held_one table steps u x op Op'.Add same held conflicts = or_right _ _ (and_from _ _ (sym (same Op'.Add) ∙ held) conflicts)

one_held : (table : LockTable) (steps : List Step) (u x : ℕ) (op : Op) → ((o : Op) → carries table u x o ≡ holds steps u x o) → holds_against steps u x op ≡ true → (other : Op) × (carries table u x other ≡ true) × (conflict other op ≡ true)
unfolding holds_against
one_held table steps u x op same h = elim (or_cases _ _ h) [
  | inl other ↦ elim (or_cases _ _ other) [
    | inl reading ↦ let both = and_parts _ _ reading in (Op'.Read, same Op'.Read ∙ both.0, both.1)
    | inr writing ↦ let both = and_parts _ _ writing in (Op'.Write, same Op'.Write ∙ both.0, both.1)
  ]
  | inr adding ↦ let both = and_parts _ _ adding in (Op'.Add, same Op'.Add ∙ both.0, both.1)
]

-- who blocks by the tables blocks by the history
pub blocker_shown : (opening : _) (steps : List Step) (rows : List NamedTransRow) (objects : Cells) (table : LockTable) (descriptors : List Descriptor) (deps : List Dependency) (t x : ℕ) (op : Op) (u : ℕ)
    → Shows opening steps (table_values rows objects table descriptors deps) → is_blocker_in table (λ n. allows_in rows descriptors n t x op) t x op u ≡ is_blocker steps t x op u
unfolding is_blocker
blocker_shown opening steps rows objects table descriptors deps t x op u shows = both_follow _ _ to back where
  alike : allows_in rows descriptors u t x op ≡ allows steps u t x op
  alike = allows_shown opening steps rows objects table descriptors deps u t x op shows

  to : is_blocker_in table (λ n. allows_in rows descriptors n t x op) t x op u ≡ true → (not (eqb u t) && not (allows steps u t x op) && holds_against steps u x op) ≡ true
  to h =
      let by = blocker_carries (λ n. allows_in rows descriptors n t x op) t x op u table h in
      and_from _ _ (and_from _ _ (ap not by.0) (ap not (sym alike ∙ by.1))) (held_one table steps u x op by.2.0 (λ o. shows.locks u x o) by.2.1 by.2.2)

  back : (not (eqb u t) && not (allows steps u t x op) && holds_against steps u x op) ≡ true → is_blocker_in table (λ n. allows_in rows descriptors n t x op) t x op u ≡ true
  back h =
      let last = and_parts _ (holds_against steps u x op) h in
      let first = and_parts (not (eqb u t)) (not (allows steps u t x op)) last.0 in
      let by = one_held table steps u x op (λ o. shows.locks u x o) last.1 in
      carrier_blocks (λ n. allows_in rows descriptors n t x op) t x op u by.0 table (not-true _ first.0) (alike ∙ not-true _ first.1) by.1 by.2

-- ---- who is live has a seat
pub live_by_seat : (opening : _) (steps : List Step) (rows : List NamedTransRow) (objects : Cells) (table : LockTable) (descriptors : List Descriptor) (deps : List Dependency) (seats : Seated) (c : ℕ) (t : Txn)
    → Shows opening steps (table_values rows objects table descriptors deps) → LiveAreSeated rows seats → seat seats c ≡ Some t → live steps t.0 ≡ true
live_by_seat opening steps rows objects table descriptors deps seats c t shows seated sits = sym (live_shown opening steps rows objects table descriptors deps t.0 shows) ∙ seated.live c t sits

pub dead_by_seat : (opening : _) (steps : List Step) (rows : List NamedTransRow) (objects : Cells) (table : LockTable) (descriptors : List Descriptor) (deps : List Dependency) (seats : Seated) (t : Txn)
    → Shows opening steps (table_values rows objects table descriptors deps) → LiveAreSeated rows seats → ((c : ℕ) → seat seats c ≢ Some t) → live steps t.0 ≡ false
dead_by_seat opening steps rows objects table descriptors deps seats t shows seated absent = go (live steps t.0) refl where
  go : (b : Bool) → live steps t.0 ≡ b → b ≡ false
  go true alive = absurd (absent (seat_in rows t.0) (seated.seated t (live_shown opening steps rows objects table descriptors deps t.0 shows ∙ alive)))
  go false dead = refl

-- ---- why a commit waits
-- nobody, if it is not live
pub none_unfinished : (steps : List Step) (t u : ℕ) → live steps t ≡ false → false ≡ is_unfinished steps t u
unfolding is_unfinished
none_unfinished steps t u dead = sym (ap (λ (b : Bool). b && same_class steps t u && not (is_completed (status steps u))) dead)

pub none_outside : (steps : List Step) (t u : ℕ) → live steps t ≡ false → false ≡ is_outside_source steps t u
unfolding is_outside_source
none_outside steps t u dead = sym (ap (λ (b : Bool). b && is_outside_of (among (live steps) (class_arrows steps)) (among (live steps) (order_arrows steps)) t u) dead)

pub unfinished_shown : (opening : _) (steps : List Step) (rows : List NamedTransRow) (objects : Cells) (table : LockTable) (descriptors : List Descriptor) (deps : List Dependency) (t u : ℕ)
    → Shows opening steps (table_values rows objects table descriptors deps) → live steps t ≡ true → (class_in deps t u && not (is_completed (status_in rows u))) ≡ is_unfinished steps t u
unfolding is_unfinished
unfinished_shown opening steps rows objects table descriptors deps t u shows alive =
    rw alive (λ i. class_shown steps deps shows.dependencies_stand t u i && not (is_completed (shows.statuses u i)))

outside_from : (classes orders others more : List Arrow) → ((a b : ℕ) → linked classes a b ≡ linked others a b) → ((a b : ℕ) → has_arrow orders a b ≡ has_arrow more a b) → (t u : ℕ) → is_outside_of classes orders t u ≡ true → is_outside_of others more t u ≡ true
unfolding is_outside_of
outside_from classes orders others more same alike t u h =
    let parts = and_parts (not (linked classes t u)) _ h in
    let arrow = arrow_of_any (λ a b. eqb a u && linked classes t b) orders parts.1 in
    let ends = and_parts (eqb arrow.0 u) _ arrow.3 in
    and_from _ _ (ap not (sym (same t u)) ∙ parts.0)
    (any_of_arrow (λ a b. eqb a u && linked others t b) more arrow.0 arrow.1 (sym (alike arrow.0 arrow.1) ∙ arrow.2) (and_from _ _ ends.0 (sym (same t arrow.1) ∙ ends.1)))

pub outside_source_shown : (opening : _) (steps : List Step) (rows : List NamedTransRow) (objects : Cells) (table : LockTable) (descriptors : List Descriptor) (deps : List Dependency) (t u : ℕ)
    → Shows opening steps (table_values rows objects table descriptors deps) → live steps t ≡ true → is_outside_source_in deps t u ≡ is_outside_source steps t u
unfolding is_outside_source is_outside_source_in
outside_source_shown opening steps rows objects table descriptors deps t u shows alive =
    let stand = shows.dependencies_stand in
    let classes = linked_same (class_ways deps) (among (live steps) (class_arrows steps)) (class_arrow steps deps stand) in
    let orders = order_arrow steps deps stand in
    rw alive (both_follow _ _
    (outside_from (class_ways deps) (order_ways deps) (among (live steps) (class_arrows steps)) (among (live steps) (order_arrows steps)) classes orders t u)
    (outside_from (among (live steps) (class_arrows steps)) (among (live steps) (order_arrows steps)) (class_ways deps) (order_ways deps) (λ a b. sym (classes a b)) (λ a b. sym (orders a b)) t u))
