-- What callers need of chains: what a call changes key by key and chain by chain, and what sound chains are like.
use Rattle.std.proofs.Common.{◌≡◌, ℕ, ◌+◌, ◌<◌, ◌≤◌, true, List, [], ◌∷◌, ◌++◌, length, get_or, set, Option, Some, None, refl, sym, ap, subst, ◌∙◌, zero, suc, inl, inr}
use Rattle.std.proofs.lemmas.Bool.{false≢true, cases_lt}
use Rattle.std.proofs.lemmas.List.{length-set, get_or-set_same, get_or-set_other, get_or_past, length-append}
use Rattle.std.proofs.lemmas.Map.Steps.{length-le_from_distinct_below}
use Rattle.asset_chains.specs.Chained.{Chained, chain_of, home_of, first_of, last_of, behind, ahead, without, lists, pushed, unlinked, unlinked_from, one_key_more, one_chain_more, IsConsistent}
use Rattle.asset_chains.proofs.KeyLemmas.{split_at_key, without_key, last_listed, last_behind, first_listed, first_ahead}

-- ---- what a push changes
pub record IsPushed (c k : ℕ) (old new : Chained) : Type 0 where
  pub chain : chain_of new c ≡ chain_of old c ++ k ∷ []
  pub chains : (d : ℕ) → (d ≡ c → ⊥) → chain_of new d ≡ chain_of old d
  pub home : home_of new k ≡ Some c
  pub homes : (j : ℕ) → (j ≡ k → ⊥) → home_of new j ≡ home_of old j
  pub same_chains : length new.chains ≡ length old.chains
  pub same_keys : length new.homes ≡ length old.homes

pub is_pushed : (c k : ℕ) (table : Chained) → c < length table.chains → k < length table.homes → IsPushed c k table (pushed c k table)
unfolding pushed chain_of home_of
is_pushed c k table chain key = record {
  chain = get_or-set_same table.chains c (get_or table.chains c [] ++ k ∷ []) [] chain;
  chains = λ d apart. get_or-set_other table.chains c d (get_or table.chains c [] ++ k ∷ []) [] apart;
  home = get_or-set_same table.homes k (Some c) None key;
  homes = λ j apart. get_or-set_other table.homes k j (Some c) None apart;
  same_chains = length-set table.chains c (get_or table.chains c [] ++ k ∷ []);
  same_keys = length-set table.homes k (Some c);
}

pub pushes : (c k : ℕ) (old new : Chained) → c < length old.chains → k < length old.homes → new ≡ pushed c k old → IsPushed c k old new
pushes c k old new chain key is = subst (IsPushed c k old) (sym is) (is_pushed c k old chain key)

-- ---- what an unlinking changes
pub record IsUnlinked (c k : ℕ) (old new : Chained) : Type 0 where
  pub chain : chain_of new c ≡ without k (chain_of old c)
  pub chains : (d : ℕ) → (d ≡ c → ⊥) → chain_of new d ≡ chain_of old d
  pub home : home_of new k ≡ None
  pub homes : (j : ℕ) → (j ≡ k → ⊥) → home_of new j ≡ home_of old j
  pub same_chains : length new.chains ≡ length old.chains
  pub same_keys : length new.homes ≡ length old.homes

less_in_place : (chains : List (List ℕ)) (c k : ℕ) → get_or (set chains c (without k (get_or chains c []))) c [] ≡ without k (get_or chains c [])
less_in_place chains c k =
    elim (cases_lt c (length chains)) [
      | inl within ↦ get_or-set_same chains c (without k (get_or chains c [])) [] within
      | inr past ↦
          let none : get_or chains c [] ≡ [] = get_or_past chains c [] past in
          get_or_past (set chains c (without k (get_or chains c []))) c [] (rw length-set past) ∙ sym (ap (without k) none)
    ]

none_in_place : (homes : List (Option ℕ)) (k : ℕ) → get_or (set homes k None) k None ≡ None
none_in_place homes k =
    elim (cases_lt k (length homes)) [
      | inl within ↦ get_or-set_same homes k None None within
      | inr past ↦ get_or_past (set homes k None) k None (rw length-set past)
    ]

pub is_unlinked : (c k : ℕ) (table : Chained) → home_of table k ≡ Some c → IsUnlinked c k table (unlinked k table)
unfolding unlinked unlinked_from chain_of home_of
is_unlinked c k table home = subst (λ (o : Option ℕ). IsUnlinked c k table (unlinked_from o k table)) (sym home) (record {
  chain = less_in_place table.chains c k;
  chains = λ d apart. get_or-set_other table.chains c d (without k (get_or table.chains c [])) [] apart;
  home = none_in_place table.homes k;
  homes = λ j apart. get_or-set_other table.homes k j None None apart;
  same_chains = length-set table.chains c (without k (get_or table.chains c []));
  same_keys = length-set table.homes k None;
})

pub unlinks : (c k : ℕ) (old new : Chained) → home_of old k ≡ Some c → new ≡ unlinked k old → IsUnlinked c k old new
unlinks c k old new home is = subst (IsUnlinked c k old) (sym is) (is_unlinked c k old home)

-- unlinking a key that is in no chain changes nothing
pub unlinks_nothing : (k : ℕ) (table : Chained) → home_of table k ≡ None → unlinked k table ≡ table
unfolding unlinked unlinked_from
unlinks_nothing k table free = ap (λ (o : Option ℕ). unlinked_from o k table) free

-- ---- what growing changes: how many there are
pub read_more : {X : Type 0} (xs : List X) (none : X) (i : ℕ) → get_or (xs ++ none ∷ []) i none ≡ get_or xs i none
read_more [] none zero = refl
read_more [] none (suc i) = refl
read_more (x ∷ xs) none zero = refl
read_more (x ∷ xs) none (suc i) = read_more xs none i

pub key_more-chain : (table : Chained) (c : ℕ) → chain_of (one_key_more table) c ≡ chain_of table c
unfolding one_key_more chain_of
key_more-chain table c = refl

pub key_more-home : (table : Chained) (k : ℕ) → home_of (one_key_more table) k ≡ home_of table k
unfolding one_key_more home_of
key_more-home table k = read_more table.homes None k

pub key_more-keys : (table : Chained) → length (one_key_more table).homes ≡ length table.homes + 1
unfolding one_key_more
key_more-keys table = length-append table.homes (None ∷ [])

pub key_more-chains : (table : Chained) → (one_key_more table).chains ≡ table.chains
unfolding one_key_more
key_more-chains table = refl

pub chain_more-chain : (table : Chained) (c : ℕ) → chain_of (one_chain_more table) c ≡ chain_of table c
unfolding one_chain_more chain_of
chain_more-chain table c = read_more table.chains [] c

pub chain_more-home : (table : Chained) (k : ℕ) → home_of (one_chain_more table) k ≡ home_of table k
unfolding one_chain_more home_of
chain_more-home table k = refl

pub chain_more-chains : (table : Chained) → length (one_chain_more table).chains ≡ length table.chains + 1
unfolding one_chain_more
chain_more-chains table = length-append table.chains ([] ∷ [])

pub chain_more-keys : (table : Chained) → (one_chain_more table).homes ≡ table.homes
unfolding one_chain_more
chain_more-keys table = refl

-- ---- where numbers stand
-- a key with a home is one of the keys
pub key_within : (k c : ℕ) (table : Chained) → home_of table k ≡ Some c → k < length table.homes
unfolding home_of
key_within k c table home =
    elim (cases_lt k (length table.homes)) [
      | inl within ↦ within
      | inr past ↦
          let none : get_or table.homes k None ≡ None = get_or_past table.homes k None past in
          absurd (cc)
    ]

-- a chain that lists a key is one of the chains
pub chain_within : (c k : ℕ) (table : Chained) → lists (chain_of table c) k ≡ true → c < length table.chains
unfolding chain_of
chain_within c k table there =
    elim (cases_lt c (length table.chains)) [
      | inl within ↦ within
      | inr past ↦ absurd (false≢true (sym (ap (λ (keys : List ℕ). lists keys k) (get_or_past table.chains c [] past)) ∙ there))
    ]

-- a key with a home is one of the keys, and its home is one of the chains
pub home_within : (k c : ℕ) (table : Chained) → IsConsistent table → home_of table k ≡ Some c → (k < length table.homes) × (c < length table.chains)
home_within k c table sound home = (key_within k c table home, chain_within c k table (sound.listed c k home))

-- a chain is no longer than the keys
pub chain_bound : (c : ℕ) (table : Chained) → IsConsistent table → length (chain_of table c) ≤ length table.homes
chain_bound c table sound =
    length-le_from_distinct_below (chain_of table c) (length table.homes) (sound.once c) (λ k there. key_within k c table (sound.at_home c k there))

-- ---- what a chain is around its keys
-- a listed key cuts its chain in two
pub chain_at_key : (k c : ℕ) (table : Chained) → IsConsistent table → home_of table k ≡ Some c → chain_of table c ≡ ahead k (chain_of table c) ++ k ∷ behind k (chain_of table c)
chain_at_key k c table sound home = split_at_key k (chain_of table c) (sound.listed c k home)

-- without the key the two parts are left
pub chain_without_key : (k c : ℕ) (table : Chained) → IsConsistent table → home_of table k ≡ Some c → without k (chain_of table c) ≡ ahead k (chain_of table c) ++ behind k (chain_of table c)
chain_without_key k c table sound home = without_key k (chain_of table c) (sound.once c) (sound.listed c k home)

-- the last key of a chain is at home there, and the others stand ahead of it
pub chain_at_last : (k c : ℕ) (table : Chained) → IsConsistent table → last_of (chain_of table c) ≡ Some k
    → (home_of table k ≡ Some c) × (behind k (chain_of table c) ≡ []) × (chain_of table c ≡ ahead k (chain_of table c) ++ k ∷ [])
chain_at_last k c table sound last =
    let there = last_listed k (chain_of table c) last in
    let none = last_behind k (chain_of table c) (sound.once c) last in
    (sound.at_home c k there, none, split_at_key k (chain_of table c) there ∙ ap (λ (rest : List ℕ). ahead k (chain_of table c) ++ k ∷ rest) none)

-- the first key of a chain is at home there, and the others stand behind it
pub chain_at_first : (k c : ℕ) (table : Chained) → IsConsistent table → first_of (chain_of table c) ≡ Some k
    → (home_of table k ≡ Some c) × (ahead k (chain_of table c) ≡ []) × (chain_of table c ≡ k ∷ behind k (chain_of table c))
chain_at_first k c table sound first =
    let there = first_listed k (chain_of table c) first in
    let none = first_ahead k (chain_of table c) first in
    (sound.at_home c k there, none, split_at_key k (chain_of table c) there ∙ ap (λ (front : List ℕ). front ++ k ∷ behind k (chain_of table c)) none)
