-- The first record of an object is dropped.
use Rattle.std.proofs.Common.{◌≡◌, ℕ, ◌+◌, ◌≤◌, suc, Bool, true, false, cond, eqb, List, [], ◌∷◌, ◌++◌, Some, None, is_some, length, refl, sym, ap, ◌∙◌, arith, if◌then◌else◌}
use Rattle.std.specs.List.{count_by}
use Rattle.std.proofs.lemmas.List.Sums.{sum_by-cons, count_by-le-length}
use Rattle.std.proofs.lemmas.Bool.{eqb-false, true≢false, false≢true}
use Rattle.slab.specs.Slab.{Slab, get}
use Rattle.asset_chains.specs.Chained.{Chained, chain_of, home_of, first_of, without, ahead, behind, lists, IsConsistent}
use Rattle.asset_chains.proofs.Laws.{chain_at_first, chain_without_key}
use Rattle.asset_chains.proofs.SoundLemmas.{listed_once}
use Rattle.asset_chains.proofs.KeyLemmas.{without_unlisted}
use Rattle.asset_records.specs.declared.records.Record.{Record}
use Rattle.asset_records.specs.Listed.{record_at, at_keys, is_owned, IsNoMore}
use Rattle.asset_chains.specs.Crossed.{Crossed}
use Rattle.asset_records.proofs.ListedLemmas.{keys_length}
use Rattle.asset_records.proofs.BackLemmas.{read_as}

module _ (table less : Chained) (key i : ℕ) (sound : IsConsistent table) (first : first_of (chain_of table i) ≡ Some key) (chains : (j : ℕ) → chain_of less j ≡ without key (chain_of table j)) where
  pub first_home : home_of table key ≡ Some i
  first_home = (chain_at_first key i table sound first).0

  pub rest_is : chain_of less i ≡ behind key (chain_of table i)
  rest_is =
      let at = chain_at_first key i table sound first in
      chains i ∙ chain_without_key key i table sound at.0 ∙ ap (λ (front : List ℕ). front ++ behind key (chain_of table i)) at.1

  pub others_are : (j : ℕ) → eqb j i ≡ false → chain_of less j ≡ chain_of table j
  others_are j apart = chains j ∙ without_unlisted key (chain_of table j) (listed_once table sound key i j first_home (eqb-false j i apart))

  pub chain_is : chain_of table i ≡ key ∷ behind key (chain_of table i)
  chain_is = (chain_at_first key i table sound first).2

  pub shorter : length (chain_of less i) + 1 ≡ length (chain_of table i)
  shorter = omega (arith, ap length rest_is, ap length chain_is)

  later_behind : (last : ℕ) (keys : List ℕ) → eqb last key ≡ false → behind last (key ∷ keys) ≡ behind last keys
  later_behind last keys apart = ap (λ (b : Bool). if b then keys else behind last keys) apart

  later_ahead : (last : ℕ) (keys : List ℕ) → eqb last key ≡ false → ahead last (key ∷ keys) ≡ key ∷ ahead last keys
  later_ahead last keys apart = ap (λ (b : Bool). if b then [] else key ∷ ahead last keys) apart

  -- what stands behind another key stays
  pub behind_same : (last : ℕ) → eqb last key ≡ false → behind last (chain_of less i) ≡ behind last (chain_of table i)
  behind_same last apart = ap (behind last) rest_is ∙ sym (ap (behind last) chain_is ∙ later_behind last (behind key (chain_of table i)) apart)

  -- and this one stands ahead of it, before the others
  pub ahead_is : (last : ℕ) → eqb last key ≡ false → ahead last (chain_of table i) ≡ key ∷ ahead last (chain_of less i)
  ahead_is last apart = ap (ahead last) chain_is ∙ later_ahead last (behind key (chain_of table i)) apart ∙ sym (ap (λ (keys : List ℕ). key ∷ ahead last keys) rest_is)

-- a record that is still there is as it was
pub kept_after : (initial now new : Slab Record) (key : ℕ) → ((k : ℕ) → get new k ≡ cond (eqb k key) None (get now k)) → ((k : ℕ) → is_some (get now k) ≡ true → get now k ≡ get initial k)
    → (k : ℕ) → is_some (get new k) ≡ true → get new k ≡ get initial k
kept_after initial now new key drops kept k there = go (eqb k key) refl where
  go : (b : Bool) → eqb k key ≡ b → get new k ≡ get initial k
  go true e = absurd (true≢false (sym there ∙ ap is_some (drops k ∙ ap (λ (b : Bool). cond b None (get now k)) e)))
  go false e =
      let same : get new k ≡ get now k = drops k ∙ ap (λ (b : Bool). cond b None (get now k)) e in same ∙ kept k (sym (ap is_some same) ∙ there)

-- and so is its home
pub home_after : (table less : Chained) (key last i : ℕ) → ((k : ℕ) → home_of less k ≡ cond (eqb k key) None (home_of table k)) → eqb last key ≡ false → home_of table last ≡ Some i → home_of less last ≡ Some i
home_after table less key last i homes apart home = homes last ∙ ap (λ (b : Bool). cond b None (home_of table last)) apart ∙ home

-- how many of the records at these keys are somebody's
pub owned_many : Slab Record → List ℕ → ℕ
owned_many records keys = count_by (is_owned (λ (n : ℕ). true)) (at_keys records keys)

-- 1 for a record of somebody
abbrev pub one_if_owned : Record → ℕ
one_if_owned one = cond (is_owned (λ (n : ℕ). true) one) 1 0

pub owned_more : (records : Slab Record) (key : ℕ) (keys : List ℕ) → owned_many records (key ∷ keys) ≡ one_if_owned (record_at records key) + owned_many records keys
unfolding owned_many at_keys
owned_more records key keys = sum_by-cons (λ (one : Record). cond {A = ℕ} (is_owned (λ (n : ℕ). true) one) 1 0) (record_at records key) (at_keys records keys)

pub owned_none : (records : Slab Record) → owned_many records [] ≡ 0
unfolding owned_many at_keys
owned_none records = refl

pub one_at_most : (one : Record) → one_if_owned one ≤ 1
one_at_most one = go (is_owned (λ (n : ℕ). true) one) where
  go : (b : Bool) → cond {A = ℕ} b 1 0 ≤ 1
  go true = omega arith
  go false = omega arith

pub owned_le : (records : Slab Record) (keys : List ℕ) → owned_many records keys ≤ length keys
unfolding owned_many
owned_le records keys = omega (arith, count_by-le-length (is_owned (λ (n : ℕ). true)) (at_keys records keys), keys_length records keys)

-- a record that stays is somebody's as before
pub owned_same : (old new : Slab Record) (key : ℕ) → get new key ≡ get old key → one_if_owned (record_at new key) ≡ one_if_owned (record_at old key)
owned_same old new key same = ap one_if_owned (read_as new old key same)

-- the record at a key and those at these keys
pub owned_with : (records : Slab Record) (key : ℕ) (keys : List ℕ) → count_by (is_owned (λ (n : ℕ). true)) (record_at records key ∷ at_keys records keys) ≡ one_if_owned (record_at records key) + owned_many records keys
unfolding owned_many
owned_with records key keys = sum_by-cons (λ (one : Record). cond {A = ℕ} (is_owned (λ (n : ℕ). true) one) 1 0) (record_at records key) (at_keys records keys)

-- the keys ahead of one are no more than the keys
pub ahead_le : (k : ℕ) (keys : List ℕ) → length (ahead k keys) ≤ length keys
ahead_le k [] = omega arith
ahead_le k (x ∷ keys) = go (eqb k x) (ahead_le k keys) where
  go : (b : Bool) → length (ahead k keys) ≤ length keys → length (if b then [] else x ∷ ahead k keys) ≤ suc (length keys)
  go true le = omega arith
  go false le = omega (arith, le)

-- a chain that lists a key has a first one
pub first_there : (keys : List ℕ) (k : ℕ) → first_of keys ≡ None → lists keys k ≡ true → ⊥
first_there [] k none there = false≢true there
first_there (x ∷ keys) k none there = cc none

-- no more than no more
pub no_more : {first second third : Crossed Record} → IsNoMore second third → IsNoMore first second → IsNoMore first third
no_more later before = record { items = omega (arith, later.items, before.items); columns = omega (arith, later.columns, before.columns) }
