-- Who has which seat, after a seat is given or left.
use Rattle.std.proofs.Common.{◌≡◌, ℕ, ◌<◌, ◌+◌, true, false, List, [], ◌∷◌, ◌++◌, length, get_or, zero, suc, Option, Some, None, is_some, refl, sym, ap, ◌∙◌, arith}
use Rattle.std.specs.Prelude.{slice_index_or, unwrap_or, IfSome, IfNone}
use Rattle.std.proofs.lemmas.Bool.{true≢false}
use Rattle.asset_names.specs.declared.names.Txn.{Txn}
use Rattle.asset_names.proofs.Common.{some_of}
use Rattle.asset_chains.specs.Chained.{Chained, chain_of, home_of, last_of, lists, IsConsistent}
use Rattle.asset_chains.proofs.Laws.{key_within, chain_at_last}
use Rattle.asset_seats.specs.Seated.{Seated, seat}
use Rattle.asset_seats.specs.Bucketed.{bucket_in, no_name, name_in, taken, slots_of, seats_of, rebucketed, AreBucketed}

-- what is read within a list is read whatever stands past it
pub read_within : {X : Type 0} (xs : List X) (i : ℕ) (x y : X) → i < length xs → get_or xs i x ≡ get_or xs i y
read_within [] i x y within = absurd (omega (arith, within))
read_within (z ∷ xs) zero x y within = refl
read_within (z ∷ xs) (suc i) x y within = read_within xs i x y (omega (arith, within))

-- ---- what is seen
pub slots_length : (homes : List (Option ℕ)) (names : List Txn) → length (slots_of homes names) ≡ length homes
slots_length [] names = refl
slots_length (home ∷ homes) [] = ap suc (slots_length homes [])
slots_length (home ∷ homes) (name ∷ names) = ap suc (slots_length homes names)

slot_at : (homes : List (Option ℕ)) (names : List Txn) (c : ℕ) → get_or (slots_of homes names) c None ≡ taken (get_or homes c None) (get_or names c no_name)
slot_at [] names c = refl
slot_at (home ∷ homes) [] zero = refl
slot_at (home ∷ homes) [] (suc c) = slot_at homes [] c
slot_at (home ∷ homes) (name ∷ names) zero = refl
slot_at (home ∷ homes) (name ∷ names) (suc c) = slot_at homes names c

-- who has a seat, by its chain and the name that is stored
pub seat_at : (names : List Txn) (table : Chained) (c : ℕ) → seat (seats_of names table) c ≡ taken (home_of table c) (name_in names c)
unfolding seat seats_of home_of name_in
seat_at names table c = slot_at table.homes names c

pub seat_is : (names : List Txn) (table : Chained) (now : Seated) (c : ℕ) → seats_of names table ≡ now → seat now c ≡ taken (home_of table c) (name_in names c)
seat_is names table now c view = sym (ap (λ (s : Seated). seat s c) view) ∙ seat_at names table c

pub many_at : (names : List Txn) (table : Chained) → length (seats_of names table).slots ≡ length table.homes
unfolding seats_of
many_at names table = slots_length table.homes names

pub many_are : (names : List Txn) (table : Chained) (now : Seated) → seats_of names table ≡ now → length now.slots ≡ length table.homes
many_are names table now view = sym (ap (λ (s : Seated). length s.slots) view) ∙ many_at names table

pub vacant_at : (names : List Txn) (table : Chained) → (seats_of names table).vacant ≡ unwrap_or (last_of (chain_of table 0)) (length table.homes)
unfolding seats_of
vacant_at names table = refl

pub room_at : (names : List Txn) (table : Chained) → (seats_of names table).has_room ≡ is_some (last_of (chain_of table 0))
unfolding seats_of
room_at names table = refl

pub vacant_is : (names : List Txn) (table : Chained) (now : Seated) → seats_of names table ≡ now → now.vacant ≡ unwrap_or (last_of (chain_of table 0)) (length table.homes)
vacant_is names table now view = sym (ap (λ (s : Seated). s.vacant) view) ∙ vacant_at names table

pub room_is : (names : List Txn) (table : Chained) (now : Seated) → seats_of names table ≡ now → now.has_room ≡ is_some (last_of (chain_of table 0))
room_is names table now view = sym (ap (λ (s : Seated). s.has_room) view) ∙ room_at names table

-- one who has a seat has its name and its bucket
pub sat_in : (home : Option ℕ) (name t : Txn) → taken home name ≡ Some t → (b : ℕ) × (home ≡ Some (suc b)) × (name ≡ t)
sat_in None name t h = cc h
sat_in (Some zero) name t h = cc h
sat_in (Some (suc b)) name t h = (b, refl, cc h)

-- a seat that nobody has, and which is in a chain, is free
pub free_in : (home : Option ℕ) (name : Txn) → taken home name ≡ None → is_some home ≡ true → home ≡ Some 0
free_in None name h some = absurd (true≢false (sym some))
free_in (Some zero) name h some = refl
free_in (Some (suc b)) name h some = cc h

-- a seat in a bucket is had by the name that is stored
pub named_at : (home : Option ℕ) (b : ℕ) (name : Txn) → home ≡ Some b → (b ≡ 0 → ⊥) → taken home name ≡ Some name
named_at None b name at apart = cc at
named_at (Some zero) b name at apart = let same : 0 ≡ b = cc at in absurd (apart (sym same))
named_at (Some (suc a)) b name at apart = refl

-- what is moved to its bucket is had by the same
pub same_taken : (bucket : ℕ) (home : Option ℕ) (name : Txn) → taken (rebucketed bucket home) name ≡ taken home name
same_taken bucket None name = refl
same_taken bucket (Some zero) name = refl
same_taken bucket (Some (suc b)) name = refl

pub last_some : (keys : List ℕ) (k : ℕ) → lists keys k ≡ true → is_some (last_of keys) ≡ true
last_some [] k h = absurd (true≢false (sym h))
last_some (x ∷ keys) k h = refl

pub last_appended : (keys : List ℕ) (k : ℕ) → last_of (keys ++ k ∷ []) ≡ Some k
last_appended [] k = refl
last_appended (x ∷ []) k = refl
last_appended (x ∷ y ∷ keys) k = ap (λ (o : Option ℕ). Some (unwrap_or o x)) (last_appended (y ∷ keys) k)

-- a seat that is free last is given next
pub vacant_of : (names : List Txn) (table : Chained) (c : ℕ) → last_of (chain_of table 0) ≡ Some c → (seats_of names table).vacant ≡ c
vacant_of names table c last = vacant_at names table ∙ ap (λ (o : Option ℕ). unwrap_or o (length table.homes)) last

pub room_of : (names : List Txn) (table : Chained) (c : ℕ) → last_of (chain_of table 0) ≡ Some c → (seats_of names table).has_room ≡ true
room_of names table c last = room_at names table ∙ ap is_some last

pub leaves_chain : (table new : Chained) (c chain : ℕ) → home_of table c ≡ Some chain → 0 < chain → ((home_of table c ≡ Some 0 → ⊥) → chain_of new 0 ≡ chain_of table 0 ++ c ∷ []) → last_of (chain_of new 0) ≡ Some c
leaves_chain table new c chain home some push = ap last_of (push (λ free. wrong chain (sym home ∙ free) some)) ∙ last_appended (chain_of table 0) c where
  wrong : (n : ℕ) → Some n ≡ Some 0 → 0 < n → ⊥
  wrong n same some = let is : n ≡ 0 = cc same in omega (arith, is, some)

-- where no seat is free, the next one is past the last
pub vacant_past : (names : List Txn) (table : Chained) (now : Seated) → seats_of names table ≡ now → now.has_room ≡ false → now.vacant ≡ length now.slots
vacant_past names table now view none =
    vacant_is names table now view ∙ go (last_of (chain_of table 0)) (sym (room_is names table now view) ∙ none) ∙ sym (many_are names table now view) where
      go : (o : Option ℕ) → is_some o ≡ false → unwrap_or o (length table.homes) ≡ length table.homes
      go None h = refl
      go (Some k) h = absurd (true≢false h)

-- ---- laws
module _ (names : List Txn) (table : Chained) (buckets : ℕ) (now : Seated) (view : seats_of names table ≡ now) (kept : AreBucketed names table buckets) where
  -- one transaction has one seat
  pub one_seat : (t : Txn) (c d : ℕ) → seat now c ≡ Some t → seat now d ≡ Some t → d ≡ c
  one_seat t c d here there =
      let at_c = sat_in (home_of table c) (name_in names c) t (sym (seat_is names table now c view) ∙ here) in
      let at_d = sat_in (home_of table d) (name_in names d) t (sym (seat_is names table now d view) ∙ there) in
      kept.one d c at_d.0 at_c.0 at_d.1 at_c.1 (at_d.2 ∙ sym at_c.2)

  -- a seat that nobody has is free
  pub free_seat : IsConsistent table → (c : ℕ) → c < length now.slots → seat now c ≡ None → now.has_room ≡ true
  free_seat sound c within nobody =
      let among : c < length table.homes = omega (arith, many_are names table now view) in
      let home = free_in (home_of table c) (name_in names c) (sym (seat_is names table now c view) ∙ nobody) (kept.homed c among) in
      room_is names table now view ∙ last_some (chain_of table 0) c (sound.listed 0 c home)

  -- the seat that is given next is free
  pub vacant_home : IsConsistent table → now.has_room ≡ true → home_of table now.vacant ≡ Some 0
  vacant_home sound room =
      let last = some_of (last_of (chain_of table 0)) (sym (room_is names table now view) ∙ room) in
      let at = (chain_at_last last.0 0 table sound last.1).0 in
      let here : now.vacant ≡ last.0 = vacant_is names table now view ∙ ap (λ (o : Option ℕ). unwrap_or o (length table.homes)) last.1 in
      ap (home_of table) here ∙ at

  pub vacant_within : IsConsistent table → now.has_room ≡ true → now.vacant < length now.slots
  vacant_within sound room = let among = key_within now.vacant 0 table (vacant_home sound room) in omega (arith, among, many_are names table now view)

  -- the name of a bucket's seat
  pub found_seat : (t : Txn) (c : ℕ) → home_of table c ≡ Some (suc (bucket_in t.0 buckets)) → name_in names c ≡ t → (seat now c ≡ Some t) × ((d : ℕ) → seat now d ≡ Some t → d ≡ c)
  found_seat t c home name =
      let sat : seat now c ≡ Some t = seat_is names table now c view ∙ ap (λ (o : Option ℕ). taken o (name_in names c)) home ∙ ap Some name in
      (sat, λ d there. one_seat t c d sat there)

  pub absent_seat : (t : Txn) → ((c : ℕ) → home_of table c ≡ Some (suc (bucket_in t.0 buckets)) → name_in names c ≡ t → ⊥) → (c : ℕ) → seat now c ≡ Some t → ⊥
  absent_seat t absent c sat =
      let at = sat_in (home_of table c) (name_in names c) t (sym (seat_is names table now c view) ∙ sat) in
      absent c (at.1 ∙ ap (λ (b : ℕ). Some (suc b)) (kept.bucketed c at.0 at.1 ∙ ap (λ (u : Txn). bucket_in u.0 buckets) at.2)) at.2

  -- what a search of the bucket found is the seat
  pub found_seats : (t : Txn) (bucket : ℕ) → bucket ≡ bucket_in t.0 buckets → (o : Option ℕ) → IfSome o (λ c. (home_of table c ≡ Some (1 + bucket)) × (name_in names c ≡ t))
      → IfSome o (λ c. (seat now c ≡ Some t) × ((d : ℕ) → seat now d ≡ Some t → d ≡ c))
  found_seats t bucket is None found = tt
  found_seats t bucket is (Some c) found = let chain : 1 + bucket ≡ suc (bucket_in t.0 buckets) = omega (arith, is) in found_seat t c (found.0 ∙ ap (λ (n : ℕ). Some n) chain) found.1

  pub absent_seats : (t : Txn) (bucket : ℕ) → bucket ≡ bucket_in t.0 buckets → (o : Option ℕ) → IfNone o ((c : ℕ) → home_of table c ≡ Some (1 + bucket) → name_in names c ≡ t → ⊥)
      → IfNone o ((c : ℕ) → seat now c ≡ Some t → ⊥)
  absent_seats t bucket is None absent = let chain : 1 + bucket ≡ suc (bucket_in t.0 buckets) = omega (arith, is) in absent_seat t (λ c home. absent c (home ∙ ap (λ (n : ℕ). Some n) (sym chain)))
  absent_seats t bucket is (Some c) absent = tt

  -- nobody sits without a bucket
  pub nobody_sits : buckets ≡ 0 → (c : ℕ) (t : Txn) → seat now c ≡ Some t → ⊥
  nobody_sits none c t sat =
      let at = sat_in (home_of table c) (name_in names c) t (sym (seat_is names table now c view) ∙ sat) in
      let among = key_within c (suc at.0) table at.1 in
      let some = kept.ready (omega (arith, among)) in
      omega (arith, some, none)

-- ---- nobody sits, at first
pub seated_nothing : (names : List Txn) (table : Chained) → table.homes ≡ [] → AreBucketed names table 0
unfolding home_of
seated_nothing names table none = record {
  named = omega (arith, ap length none);
  homed = λ k within. absurd (omega (arith, within, ap length none));
  bucketed = λ k b home. cc (sym (ap (λ (l : List (Option ℕ)). slice_index_or l k None) none) ∙ home);
  one = λ j k a b home other same. cc (sym (ap (λ (l : List (Option ℕ)). slice_index_or l j None) none) ∙ home);
  ready = λ some. omega (arith, some, ap length none);
  within = omega arith;
}

pub nobody : (names : List Txn) (table : Chained) → table.homes ≡ [] → (seats_of names table).slots ≡ []
unfolding seats_of
nobody names table none = ap (λ (l : List (Option ℕ)). slots_of l names) none

pub nobody_at : (names : List Txn) (table : Chained) → table.homes ≡ [] → (c : ℕ) → seat (seats_of names table) c ≡ None
unfolding seat
nobody_at names table none c = ap (λ (l : List (Option Txn)). slice_index_or l c None) (nobody names table none)
