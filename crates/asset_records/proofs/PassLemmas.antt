-- The two walks of a hand-over: along the giver's column, and along the row of one object.
use Rattle.std.proofs.Common.{◌≡◌, ℕ, ◌+◌, ◌<◌, ◌≤◌, ◌&&◌, Bool, true, false, cond, eqb, List, [], ◌∷◌, ◌++◌, length, Option, Some, None, is_some, refl, sym, ap, subst, ◌∙◌, inl, inr, arith}
use Rattle.std.specs.Option.{option_map}
use Rattle.std.specs.List.{IsDistinct}
use Rattle.std.proofs.lemmas.Bool.{eqb-true, eqb-false, eq-eqb, ne_eqb, true≢false, cases_Bool}
use Rattle.slab.specs.Slab.{get}
use Rattle.asset_names.specs.declared.names.Txn.{Txn}
use Rattle.asset_chains.specs.Chained.{Chained, chain_of, home_of, first_of, behind, without, lists, IsConsistent}
use Rattle.asset_chains.specs.declared.side.Side.TheVariants.{Row, Column}
use Rattle.asset_chains.specs.Crossed.{Crossed, IsCrossed}
use Rattle.asset_chains.proofs.Walks.{from_key}
use Rattle.asset_records.specs.declared.records.Record.{Record}
use Rattle.asset_records.specs.Handed.{given, is_picked, is_at, goes, picked_at, stands_in, HandedOne, AreHanded}
use Rattle.asset_records.proofs.WalkLemmas.{append_assoc, apart_before, apart_later, behind_split, without_split, listed_middle, IsWalked, walk_starts, later, walk_listed, walk_home, walk_next, walk_within, walk_smaller, walk_moves, walk_stays}

-- ---- along a column
-- what is left of the column is what stayed of the records that were passed, and those that are to come
pub record IsHanding (picks : ℕ → Bool) (from to : ℕ) (taker : Txn) (old now : Crossed Record) (next : Option ℕ) (visits : ℕ) : Type 0 where
  pub walk : IsWalked (chain_of old.columns from) (picked_at picks old) from to taker old now next visits
  pub stayed : List ℕ
  pub current : chain_of now.columns from ≡ stayed ++ walk.left

pub handing_starts : (picks : ℕ → Bool) (from to : ℕ) (taker : Txn) (old : Crossed Record) (next : Option ℕ) → next ≡ first_of (chain_of old.columns from) → IsHanding picks from to taker old old next 0
handing_starts picks from to taker old next at = record { walk = walk_starts (chain_of old.columns from) (picked_at picks old) from to taker old next at; stayed = []; current = refl }

module _ (picks : ℕ → Bool) (from to : ℕ) (taker : Txn) (old now : Crossed Record) (key visits : ℕ) (is : IsHanding picks from to taker old now (Some key) visits) (crossed_old : IsCrossed old) (crossed : IsCrossed now) where
  abbrev others : (others : List ℕ) × (is.walk.left ≡ key ∷ others)
  others = later (chain_of old.columns from) (picked_at picks old) from to taker old now key visits is.walk ((crossed_old.sound Column).once from)

  current : chain_of now.columns from ≡ is.stayed ++ key ∷ others.0
  current = is.current ∙ ap (λ (l : List ℕ). is.stayed ++ l) others.1

  distinct_now : IsDistinct eqb (is.stayed ++ key ∷ others.0)
  distinct_now = subst (IsDistinct eqb) current ((crossed.sound Column).once from)

  pub handing_home : home_of now.columns key ≡ Some from
  handing_home = (crossed.sound Column).at_home from key (ap (λ (l : List ℕ). lists l key) current ∙ listed_middle is.stayed key others.0)

  pub handing_there : is_some (get now.items key) ≡ true
  handing_there = sym (crossed.placed Column key) ∙ ap is_some handing_home

  next_is : (next : Option ℕ) → next ≡ first_of (behind key (chain_of now.columns from)) → next ≡ first_of others.0
  next_is next at = at ∙ ap (λ (l : List ℕ). first_of (behind key l)) current ∙ ap first_of (behind_split is.stayed others.0 key (apart_before is.stayed others.0 key distinct_now))

  pub handing_within : length is.walk.passed ≤ length (chain_of old.columns from)
  handing_within = walk_within (chain_of old.columns from) (picked_at picks old) from to taker old now key visits is.walk ((crossed_old.sound Column).once from)

  pub handing_smaller : (next : Option ℕ) → next ≡ first_of (behind key (chain_of now.columns from)) → length (from_key next (chain_of old.columns from)) < length (from_key (Some key) (chain_of old.columns from))
  handing_smaller next at = walk_smaller (chain_of old.columns from) (picked_at picks old) from to taker old now key visits is.walk ((crossed_old.sound Column).once from) next (next_is next at)

  module _ (new : Crossed Record) (next : Option ℕ) (more : ℕ) (at : next ≡ first_of (behind key (chain_of now.columns from))) (least : visits + 1 ≤ more) (few : more ≤ visits + 4) where
    pub handing_steps : eqb from to ≡ false → (is_picked picks (home_of now.rows key) ≡ true → HandedOne key taker to now new) → (is_picked picks (home_of now.rows key) ≡ false → new ≡ now) → IsHanding picks from to taker old new next more
    unfolding picked_at
    handing_steps apart goes_over stays = go (picked_at picks old key) refl where
      rows : is_picked picks (home_of now.rows key) ≡ is_picked picks (home_of old.rows key)
      rows = ap (λ (table : Chained). is_picked picks (home_of table key)) is.walk.hands.rows

      go : (b : Bool) → picked_at picks old key ≡ b → IsHanding picks from to taker old new next more
      go true picked = record {
        walk = walk_moves (chain_of old.columns from) (picked_at picks old) from to taker old now key visits is.walk ((crossed_old.sound Column).once from) new next more (next_is next at) least few picked crossed handing_home (goes_over (rows ∙ picked));
        stayed = is.stayed;
        current =
            (goes_over (rows ∙ picked)).chains from (eqb-false from to apart)
            ∙ ap (without key) current
            ∙ without_split is.stayed others.0 key (apart_before is.stayed others.0 key distinct_now) (apart_later is.stayed others.0 key distinct_now);
      }
      go false left = record {
        walk = walk_stays (chain_of old.columns from) (picked_at picks old) from to taker old now key visits is.walk ((crossed_old.sound Column).once from) new next more (next_is next at) least few left (stays (rows ∙ left));
        stayed = is.stayed ++ key ∷ [];
        current = ap (λ (table : Crossed Record). chain_of table.columns from) (stays (rows ∙ left)) ∙ current ∙ append_assoc is.stayed key others.0;
      }

-- ---- along a row
at_is : (c : ℕ) (o : Option ℕ) → is_at c o ≡ true → o ≡ Some c
at_is c None h = absurd (true≢false (sym h))
at_is c (Some d) h = ap Some (eqb-true d c h)

abbrev pub IsPassing : ℕ → ℕ → ℕ → Txn → Crossed Record → Crossed Record → Option ℕ → ℕ → Type 0
IsPassing object from to taker old now next visits = IsWalked (chain_of old.rows object) (stands_in from old) from to taker old now next visits

module _ (object from to : ℕ) (taker : Txn) (old now : Crossed Record) (key visits : ℕ) (is : IsPassing object from to taker old now (Some key) visits) (crossed_old : IsCrossed old) (crossed : IsCrossed now) where
  pub passing_home : home_of now.rows key ≡ Some object
  passing_home =
      ap (λ (table : Chained). home_of table key) is.hands.rows
      ∙ (crossed_old.sound Row).at_home object key (walk_listed (chain_of old.rows object) (stands_in from old) from to taker old now key visits is ((crossed_old.sound Row).once object))

  pub passing_there : is_some (get now.items key) ≡ true
  passing_there = sym (crossed.placed Row key) ∙ ap is_some passing_home

  next_is_in_row : (next : Option ℕ) → next ≡ first_of (behind key (chain_of now.rows object)) → next ≡ first_of (later (chain_of old.rows object) (stands_in from old) from to taker old now key visits is ((crossed_old.sound Row).once object)).0
  next_is_in_row next at =
      at
      ∙ ap (λ (table : Chained). first_of (behind key (chain_of table object))) is.hands.rows
      ∙ walk_next (chain_of old.rows object) (stands_in from old) from to taker old now key visits is ((crossed_old.sound Row).once object)

  pub passing_within : length is.passed ≤ length (chain_of old.rows object)
  passing_within = walk_within (chain_of old.rows object) (stands_in from old) from to taker old now key visits is ((crossed_old.sound Row).once object)

  pub passing_smaller : (next : Option ℕ) → next ≡ first_of (behind key (chain_of now.rows object)) → length (from_key next (chain_of old.rows object)) < length (from_key (Some key) (chain_of old.rows object))
  passing_smaller next at = walk_smaller (chain_of old.rows object) (stands_in from old) from to taker old now key visits is ((crossed_old.sound Row).once object) next (next_is_in_row next at)

  module _ (new : Crossed Record) (next : Option ℕ) (more : ℕ) (at : next ≡ first_of (behind key (chain_of now.rows object))) (least : visits + 1 ≤ more) (few : more ≤ visits + 4) where
    pub passing_steps : (is_at from (home_of now.columns key) ≡ true → HandedOne key taker to now new) → (is_at from (home_of now.columns key) ≡ false → new ≡ now) → IsPassing object from to taker old new next more
    unfolding stands_in
    passing_steps goes_over stays = go (stands_in from old key) refl where
      here : is_at from (home_of now.columns key) ≡ is_at from (home_of old.columns key)
      here = ap (is_at from) (walk_home (chain_of old.rows object) (stands_in from old) from to taker old now key visits is ((crossed_old.sound Row).once object))

      go : (b : Bool) → stands_in from old key ≡ b → IsPassing object from to taker old new next more
      go true stands =
          walk_moves (chain_of old.rows object) (stands_in from old) from to taker old now key visits is ((crossed_old.sound Row).once object) new next more (next_is_in_row next at) least few
          stands crossed (at_is from (home_of now.columns key) (here ∙ stands)) (goes_over (here ∙ stands))
      go false away =
          walk_stays (chain_of old.rows object) (stands_in from old) from to taker old now key visits is ((crossed_old.sound Row).once object) new next more (next_is_in_row next at) least few away (stays (here ∙ away))

-- ---- both walks move the same records
-- a chain lists exactly the keys whose home it is
pub listed_is : (table : Chained) → IsConsistent table → (c k : ℕ) → lists (chain_of table c) k ≡ is_at c (home_of table k)
listed_is table sound c k = elim (cases_Bool (lists (chain_of table c) k)) [
  | inl there ↦ there ∙ sym (ap (is_at c) (sound.at_home c k there) ∙ eq-eqb c c refl)
  | inr absent ↦ absent ∙ sym (nowhere (home_of table k) refl absent)
] where
  nowhere : (o : Option ℕ) → home_of table k ≡ o → lists (chain_of table c) k ≡ false → is_at c o ≡ false
  nowhere None home absent = refl
  nowhere (Some d) home absent = ne_eqb d c (λ same. true≢false (sym (sound.listed c k (home ∙ ap Some same)) ∙ absent))

module _ (picks : ℕ → Bool) (object from to : ℕ) (taker : Txn) (old new : Crossed Record) (crossed : IsCrossed old) (only : (j : ℕ) → picks j ≡ eqb j object) where
  same_goes : (k : ℕ) → goes (chain_of old.rows object) (stands_in from old) k ≡ goes (chain_of old.columns from) (picked_at picks old) k
  unfolding goes stands_in picked_at
  same_goes k =
      (λ i. (listed_is old.rows (crossed.sound Row) object k i && is_at from (home_of old.columns k)))
      ∙ turned (is_at object (home_of old.rows k)) (is_at from (home_of old.columns k))
      ∙ (λ i. (sym (listed_is old.columns (crossed.sound Column) from k) i && sym (picked_is (home_of old.rows k)) i)) where
        turned : (a b : Bool) → (a && b) ≡ (b && a)
        turned true true = refl
        turned true false = refl
        turned false true = refl
        turned false false = refl

        picked_is : (o : Option ℕ) → is_picked picks o ≡ is_at object o
        picked_is None = refl
        picked_is (Some j) = only j

  pub same_handed : AreHanded (chain_of old.rows object) (stands_in from old) from to taker old new → AreHanded (chain_of old.columns from) (picked_at picks old) from to taker old new
  same_handed hands = record {
    rows = hands.rows;
    items = λ k. hands.items k ∙ ap (λ (b : Bool). cond b (option_map (given taker) (get old.items k)) (get old.items k)) (same_goes k);
    homes = λ k. hands.homes k ∙ ap (λ (b : Bool). cond b (Some to) (home_of old.columns k)) (same_goes k);
    chains = hands.chains;
    many = hands.many;
    len = hands.len;
    room = hands.room;
  }

  -- a record that goes is on the object
  pub goes_along : (k : ℕ) → goes (chain_of old.columns from) (picked_at picks old) k ≡ true → lists (chain_of old.rows object) k ≡ true
  unfolding goes
  goes_along k there = first_of_both (lists (chain_of old.rows object) k) (stands_in from old k) (same_goes k ∙ there) where
    first_of_both : (a b : Bool) → (a && b) ≡ true → a ≡ true
    first_of_both true b h = refl
    first_of_both false b h = h

pub goes_listed : (keys : List ℕ) (test : ℕ → Bool) (k : ℕ) → goes keys test k ≡ true → lists keys k ≡ true
unfolding goes
goes_listed keys test k there = first_of_both (lists keys k) (test k) there where
  first_of_both : (a b : Bool) → (a && b) ≡ true → a ≡ true
  first_of_both true b h = refl
  first_of_both false b h = h

-- a list that has a key is not empty
pub not_empty : (keys : List ℕ) (k : ℕ) → lists keys k ≡ true → 1 ≤ length keys
not_empty [] k there = absurd (true≢false (sym there))
not_empty (x ∷ keys) k there = omega arith
