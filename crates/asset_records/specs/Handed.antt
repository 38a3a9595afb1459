-- Records that become another transaction's.
use Rattle.std.specs.Prelude.{◌≡◌, ◌≢◌, ℕ, Bool, false, cond, ◌==◌, ◌&&◌, List, length, Option, Some, None, option_map}
use Rattle.slab.specs.Slab.{get, slab_len}
use Rattle.asset_chains.specs.Chained.{chain_of, home_of, without, lists}
use Rattle.asset_chains.specs.Crossed.{Crossed, has_room as has_slot}
use Rattle.asset_names.specs.declared.names.Txn.{Txn}
use Rattle.asset_records.specs.declared.records.Record.{Record}
use Rattle.asset_records.specs.declared.records.Record.TheVariants.{Write, Add, Lasting}

-- the record, which is the taker's if it was the giver's
unfoldable pub renamed : ℕ → ℕ → Record → Record
renamed giver taker (Write owner before) = Write (cond (owner.0 == giver) (record { 0 = taker }) owner) before
renamed giver taker (Add owner amount) = Add (cond (owner.0 == giver) (record { 0 = taker }) owner) amount
renamed giver taker (Lasting amount) = Lasting amount

-- the record, which is the taker's now unless it is nobody's
unfoldable pub given : Txn → Record → Record
given taker (Write owner before) = Write taker before
given taker (Add owner amount) = Add taker amount
given taker (Lasting amount) = Lasting amount

-- whether an object is one of those that are picked; none is not
abbrev pub is_picked : (ℕ → Bool) → Option ℕ → Bool
is_picked picks None = false
is_picked picks (Some object) = picks object

-- whether a column is this one; none is not
abbrev pub is_at : ℕ → Option ℕ → Bool
is_at c None = false
is_at c (Some d) = d == c

-- whether a key is one of these keys, and passes the test
unfoldable pub goes : List ℕ → (ℕ → Bool) → ℕ → Bool
goes keys test k = lists keys k && test k

-- whether the object of the record at a key is picked
unfoldable pub picked_at : (ℕ → Bool) → Crossed Record → ℕ → Bool
picked_at picks records k = is_picked picks (home_of records.rows k)

-- whether the record at a key is in this column
unfoldable pub stands_in : ℕ → Crossed Record → ℕ → Bool
stands_in c records k = is_at c (home_of records.columns k)

-- one record is the taker's, in the column of its seat, and nothing else changed
pub record HandedOne (key : ℕ) (taker : Txn) (to : ℕ) (old new : Crossed Record) : Type 0 where
  pub rows : new.rows ≡ old.rows
  pub items : (k : ℕ) → get new.items k ≡ cond (k == key) (option_map (given taker) (get old.items k)) (get old.items k)
  pub homes : (k : ℕ) → home_of new.columns k ≡ cond (k == key) (Some to) (home_of old.columns k)
  pub chains : (c : ℕ) → c ≢ to → chain_of new.columns c ≡ without key (chain_of old.columns c)
  pub many : length new.columns.chains ≡ length old.columns.chains
  pub len : slab_len new.items ≡ slab_len old.items
  pub room : has_slot new ≡ has_slot old

-- those of the records at these keys that pass the test, which were in this column, are the taker's, in the column of its
-- seat, and nothing else changed
pub record AreHanded (keys : List ℕ) (test : ℕ → Bool) (from to : ℕ) (taker : Txn) (old new : Crossed Record) : Type 0 where
  pub rows : new.rows ≡ old.rows
  pub items : (k : ℕ) → get new.items k ≡ cond (goes keys test k) (option_map (given taker) (get old.items k)) (get old.items k)
  pub homes : (k : ℕ) → home_of new.columns k ≡ cond (goes keys test k) (Some to) (home_of old.columns k)
  pub chains : (c : ℕ) → c ≢ from → c ≢ to → chain_of new.columns c ≡ chain_of old.columns c
  pub many : length new.columns.chains ≡ length old.columns.chains
  pub len : slab_len new.items ≡ slab_len old.items
  pub room : has_slot new ≡ has_slot old
