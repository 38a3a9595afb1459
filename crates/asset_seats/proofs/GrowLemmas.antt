-- More buckets and more seats.
use Rattle.std.proofs.Common.{◌≡◌, ℕ, ◌<◌, ◌≤◌, ◌+◌, ◌-◌, List, [], ◌∷◌, ◌++◌, length, zero, suc, Option, Some, None, is_some, refl, sym, ap, ◌∙◌, arith, inl, inr}
use Rattle.std.specs.Prelude.{slice_index_or, unwrap_or}
use Rattle.std.proofs.lemmas.Bool.{cases_eq}
use Rattle.std.proofs.lemmas.List.{get_or_past}
use Rattle.asset_names.specs.declared.names.Txn.{Txn}
use Rattle.asset_chains.specs.Chained.{Chained, chain_of, home_of, last_of, pushed, one_key_more}
use Rattle.asset_chains.proofs.Laws.{read_more, pushes, key_more-home, key_more-keys, key_more-chains, IsPushed}
use Rattle.asset_seats.specs.Seated.{Seated, seat}
use Rattle.asset_seats.specs.Bucketed.{bucket_in, no_name, name_in, taken, seats_of, rebucketed, AreBucketed}
use Rattle.asset_seats.proofs.SeatLemmas.{seat_at, seat_is, same_taken, vacant_is, room_is, many_at, many_are, last_appended}

-- past the last key there is no home
pub home_past : (table : Chained) (k : ℕ) → length table.homes ≤ k → home_of table k ≡ None
unfolding home_of
home_past table k past = get_or_past table.homes k None past

pub rebucketed_past : (bucket : ℕ) (o : Option ℕ) → o ≡ None → rebucketed bucket o ≡ None
rebucketed_past bucket o none = ap (rebucketed bucket) none

rebucketed_some : (bucket : ℕ) (o : Option ℕ) → is_some (rebucketed bucket o) ≡ is_some o
rebucketed_some bucket None = refl
rebucketed_some bucket (Some zero) = refl
rebucketed_some bucket (Some (suc b)) = refl

rebucketed_in : (bucket : ℕ) (o : Option ℕ) (b : ℕ) → rebucketed bucket o ≡ Some (suc b) → (b ≡ bucket) × ((a : ℕ) × (o ≡ Some (suc a)))
rebucketed_in bucket None b h = cc h
rebucketed_in bucket (Some zero) b h = cc h
rebucketed_in bucket (Some (suc a)) b h = let same : b ≡ bucket = cc h in (same, (a, refl))

-- a name that was not there is the one that is stored for nobody
pub name_more : (names : List Txn) (k : ℕ) → name_in (names ++ no_name ∷ []) k ≡ name_in names k
unfolding name_in
name_more names k = read_more names no_name k

-- ---- each seat is in its bucket of more
module _ (names : List Txn) (table new : Chained) (buckets more : ℕ) (kept : AreBucketed names table buckets)
    (homes : (k : ℕ) → home_of new k ≡ rebucketed (bucket_in (name_in names k).0 more) (home_of table k))
    (keys : length new.homes ≡ length table.homes) (some : 0 < more) (chains : more ≤ length new.chains - 1) where
  pub spreads_valid : AreBucketed names new more
  spreads_valid = record {
    named = omega (arith, kept.named, keys);
    homed = λ k within. ap is_some (homes k) ∙ rebucketed_some (bucket_in (name_in names k).0 more) (home_of table k) ∙ kept.homed k (omega (arith, within, keys));
    bucketed = λ k b at. (rebucketed_in (bucket_in (name_in names k).0 more) (home_of table k) b (sym (homes k) ∙ at)).0;
    one = one;
    ready = λ there. some;
    within = chains;
  } where
    one : (j k a b : ℕ) → home_of new j ≡ Some (suc a) → home_of new k ≡ Some (suc b) → name_in names j ≡ name_in names k → j ≡ k
    one j k a b at_j at_k same =
        let was_j = (rebucketed_in (bucket_in (name_in names j).0 more) (home_of table j) a (sym (homes j) ∙ at_j)).1 in
        let was_k = (rebucketed_in (bucket_in (name_in names k).0 more) (home_of table k) b (sym (homes k) ∙ at_k)).1 in
        kept.one j k was_j.0 was_k.0 was_j.1 was_k.1 same

  pub spreads_taken : (k : ℕ) (t : Txn) → taken (home_of new k) t ≡ taken (home_of table k) t
  spreads_taken k t = ap (λ (o : Option ℕ). taken o t) (homes k) ∙ same_taken (bucket_in (name_in names k).0 more) (home_of table k) t

-- ---- more chains, and nothing else
pub chains_valid : (names : List Txn) (table new : Chained) (buckets : ℕ) → AreBucketed names table buckets → new.homes ≡ table.homes → length table.chains ≤ length new.chains → AreBucketed names new buckets
unfolding home_of
chains_valid names table new buckets kept same many = record {
  named = omega (arith, kept.named, ap length same);
  homed = λ k within. ap is_some (at k) ∙ kept.homed k (omega (arith, within, ap length same));
  bucketed = λ k b home. kept.bucketed k b (sym (at k) ∙ home);
  one = λ j k a b home other. kept.one j k a b (sym (at j) ∙ home) (sym (at k) ∙ other);
  ready = λ some. kept.ready (omega (arith, some, ap length same));
  within = omega (arith, kept.within, many);
} where
  at : (k : ℕ) → home_of new k ≡ home_of table k
  at k = ap (λ (l : List (Option ℕ)). slice_index_or l k None) same

-- ---- more names, and nothing else
pub names_valid : (names more : List Txn) (table : Chained) (buckets : ℕ) → AreBucketed names table buckets → ((k : ℕ) → name_in more k ≡ name_in names k) → length names ≤ length more → AreBucketed more table buckets
names_valid names more table buckets kept same size = record {
  named = omega (arith, kept.named, size);
  homed = kept.homed;
  bucketed = λ k b home. kept.bucketed k b home ∙ sym (ap (λ (t : Txn). bucket_in t.0 buckets) (same k));
  one = λ j k a b home other is. kept.one j k a b home other (sym (same j) ∙ is ∙ same k);
  ready = kept.ready;
  within = kept.within;
}

-- ---- one more seat, which is free
module _ (names : List Txn) (table longer new : Chained) (buckets : ℕ) (kept : AreBucketed names table buckets) (some : 0 < buckets) (place : length table.homes < length names)
    (more : longer ≡ one_key_more table) (push : new ≡ pushed 0 (length table.homes) longer) where
  pub longer_homes : (k : ℕ) → home_of longer k ≡ home_of table k
  longer_homes k = ap (λ (t : Chained). home_of t k) more ∙ key_more-home table k

  pub longer_keys : length longer.homes ≡ length table.homes + 1
  longer_keys = ap (λ (t : Chained). length t.homes) more ∙ key_more-keys table

  longer_chains : longer.chains ≡ table.chains
  longer_chains = ap (λ (t : Chained). t.chains) more ∙ key_more-chains table

  pub first_chain : 0 < length longer.chains
  first_chain = omega (arith, kept.within, some, ap length longer_chains)

  change : IsPushed 0 (length table.homes) longer new
  change = pushes 0 (length table.homes) longer new first_chain (omega (arith, longer_keys)) push

  was_none : home_of table (length table.homes) ≡ None
  was_none = home_past table (length table.homes) (omega arith)

  -- a seat that somebody has is not the new one
  stayed : (k b : ℕ) → home_of new k ≡ Some (suc b) → home_of table k ≡ Some (suc b)
  stayed k b at = elim (cases_eq k (length table.homes)) [
    | inl same ↦ let wrong : Some (suc b) ≡ Some 0 = sym at ∙ ap (home_of new) same ∙ change.home in absurd (cc wrong)
    | inr apart ↦ sym (change.homes k apart ∙ longer_homes k) ∙ at
  ]

  pub added_keys : length new.homes ≡ length table.homes + 1
  added_keys = change.same_keys ∙ longer_keys

  pub added_valid : AreBucketed names new buckets
  added_valid = record {
    named = omega (arith, added_keys, place);
    homed = λ k within. elim (cases_eq k (length table.homes)) [
      | inl same ↦ ap is_some (ap (home_of new) same ∙ change.home)
      | inr apart ↦ ap is_some (change.homes k apart ∙ longer_homes k) ∙ kept.homed k (omega (arith, within, added_keys, apart))
    ];
    bucketed = λ k b at. kept.bucketed k b (stayed k b at);
    one = λ j k a b at_j at_k same. kept.one j k a b (stayed j a at_j) (stayed k b at_k) same;
    ready = λ there. some;
    within = omega (arith, kept.within, change.same_chains, ap length longer_chains);
  }

  pub added_taken : (k : ℕ) (t : Txn) → taken (home_of new k) t ≡ taken (home_of table k) t
  added_taken k t = elim (cases_eq k (length table.homes)) [
    | inl same ↦ ap (λ (o : Option ℕ). taken o t) (ap (home_of new) same ∙ change.home) ∙ sym (ap (λ (o : Option ℕ). taken o t) (ap (home_of table) same ∙ was_none))
    | inr apart ↦ ap (λ (o : Option ℕ). taken o t) (change.homes k apart ∙ longer_homes k)
  ]

  pub added_last : last_of (chain_of new 0) ≡ Some (length table.homes)
  added_last = ap last_of change.chain ∙ last_appended (chain_of longer 0) (length table.homes)

-- ---- what is seen of it
-- seats that are stored as before are had by the same
pub seats_same : (names more : List Txn) (table new : Chained) (now : Seated) → seats_of names table ≡ now → ((k : ℕ) (t : Txn) → taken (home_of new k) t ≡ taken (home_of table k) t) → ((k : ℕ) → name_in more k ≡ name_in names k)
    → (c : ℕ) → seat (seats_of more new) c ≡ seat now c
seats_same names more table new now view same named c =
    seat_at more new c ∙ same c (name_in more c) ∙ ap (taken (home_of table c)) (named c) ∙ sym (seat_is names table now c view)

-- and so are the seats that are free
pub rest_same : (names more : List Txn) (table new : Chained) (now : Seated) → seats_of names table ≡ now → chain_of new 0 ≡ chain_of table 0 → length new.homes ≡ length table.homes
    → (length (seats_of more new).slots ≡ length now.slots) × ((seats_of more new).vacant ≡ now.vacant) × ((seats_of more new).has_room ≡ now.has_room)
unfolding seats_of
rest_same names more table new now view free keys = (
  many_at more new ∙ keys ∙ sym (many_are names table now view),
  (λ i. unwrap_or (last_of (free i)) (keys i)) ∙ sym (vacant_is names table now view),
  ap (λ (l : List ℕ). is_some (last_of l)) free ∙ sym (room_is names table now view),
)
