-- All items leave a row or a column, the first one first.
use Rattle.std.proofs.Common.{◌≡◌, ℕ, ◌+◌, Bool, true, false, cond, not, eqb, ◌||◌, List, [], ◌∷◌, ◌++◌, length, Option, Some, None, is_some, refl, sym, ap, subst, ◌∙◌, arith, inl, inr}
use Rattle.std.specs.Prelude.{filter}
use Rattle.std.proofs.lemmas.Bool.{cases_Bool, eqb-true, eqb-false, eq-eqb, ne_eqb, false_from_ne_true}
use Rattle.std.proofs.lemmas.List.{length-append, append-nil}
use Rattle.slab.specs.Slab.{get, slab_len, Updates}
use Rattle.asset_chains.specs.Chained.{chain_of, home_of, first_of, without, lists, behind}
use Rattle.asset_chains.specs.declared.side.Side.{Side}
use Rattle.asset_chains.specs.Crossed.{Crossed, lines, is_left, Leaves, Loses, IsCrossed}
use Rattle.asset_chains.proofs.KeyLemmas.{lists-append}
use Rattle.asset_chains.proofs.Laws.{chain_at_first, chain_without_key}

-- nothing is lost at first
filter_all : (keys : List ℕ) → keys ≡ filter (is_left []) keys
unfolding is_left
filter_all [] = refl
filter_all (k ∷ keys) = ap (λ (l : List ℕ). k ∷ l) (filter_all keys)

-- one key more is lost
filter_more : (gone : List ℕ) (key : ℕ) (keys : List ℕ) → without key (filter (is_left gone) keys) ≡ filter (is_left (gone ++ key ∷ [])) keys
unfolding is_left
filter_more gone key [] = refl
filter_more gone key (k ∷ keys) = go (filter_more gone key keys) (lists gone k) (eqb k key) refl refl where
  listed : lists (gone ++ key ∷ []) k ≡ (lists gone k || (eqb k key || false))
  listed = lists-append gone (key ∷ []) k

  flipped : (b : Bool) → eqb k key ≡ b → eqb key k ≡ b
  flipped true e = eq-eqb key k (sym (eqb-true k key e))
  flipped false e = ne_eqb key k (λ same. eqb-false k key e (sym same))

  go : without key (filter (λ (j : ℕ). not (lists gone j)) keys) ≡ filter (λ (j : ℕ). not (lists (gone ++ key ∷ []) j)) keys → (a b : Bool) → lists gone k ≡ a → eqb k key ≡ b
      → without key (filter (λ (j : ℕ). not (lists gone j)) (k ∷ keys)) ≡ filter (λ (j : ℕ). not (lists (gone ++ key ∷ []) j)) (k ∷ keys)
  go rest true b is e = rw (is, listed ∙ ap (λ (c : Bool). c || (eqb k key || false)) is) rest
  go rest false true is e = rw (is, flipped true e, listed ∙ (λ i. is i || (e i || false))) rest
  go rest false false is e = rw (is, flipped false e, listed ∙ (λ i. is i || (e i || false))) (ap (λ (l : List ℕ). k ∷ l) rest)

cond_more : {X : Type 0} (gone : List ℕ) (key k : ℕ) (was : Option X) → cond (eqb k key) None (cond (lists gone k) None was) ≡ cond (lists (gone ++ key ∷ []) k) None was
cond_more gone key k was = go (lists gone k) (eqb k key) refl refl where
  listed : lists (gone ++ key ∷ []) k ≡ (lists gone k || (eqb k key || false))
  listed = lists-append gone (key ∷ []) k

  go : (a b : Bool) → lists gone k ≡ a → eqb k key ≡ b → cond (eqb k key) None (cond (lists gone k) None was) ≡ cond (lists (gone ++ key ∷ []) k) None was
  go true true is e = rw (is, e, listed ∙ (λ i. is i || (e i || false))) refl
  go true false is e = rw (is, e, listed ∙ (λ i. is i || (e i || false))) refl
  go false true is e = rw (is, e, listed ∙ (λ i. is i || (e i || false))) refl
  go false false is e = rw (is, e, listed ∙ (λ i. is i || (e i || false))) refl

pub loses_nothing : {T : Type 0} (table : Crossed T) → Loses [] table table
loses_nothing table = record {
  items = λ k. refl;
  chains = λ side c. filter_all (chain_of (lines side table) c);
  homes = λ side k. refl;
  many = λ side. refl;
  len = omega arith;
}

at_key : {X : Type 0} (f : ℕ → Option X) (g : ℕ → Option X) (key : ℕ) → f key ≡ None → ((k : ℕ) → (k ≡ key → ⊥) → f k ≡ g k) → (k : ℕ) → f k ≡ cond (eqb k key) None (g k)
at_key f g key none others k = elim (cases_Bool (eqb k key)) [
  | inl here ↦ rw here (ap f (eqb-true k key here) ∙ none)
  | inr apart ↦ rw apart (others k (eqb-false k key apart))
]

pub loses_more : {T : Type 0} (gone : List ℕ) (key : ℕ) (old mid new : Crossed T) → Loses gone old mid → Updates mid.items new.items key None → ((side : Side) → Leaves key (lines side mid) (lines side new)) → slab_len new.items + 1 ≡ slab_len mid.items
    → Loses (gone ++ key ∷ []) old new
loses_more gone key old mid new loses updates leaves len = record {
  items = λ k. at_key (get new.items) (get mid.items) key updates.changed updates.others k ∙ ap (cond (eqb k key) None) (loses.items k) ∙ cond_more gone key k (get old.items k);
  chains = λ side c. (leaves side).chains c ∙ ap (without key) (loses.chains side c) ∙ filter_more gone key (chain_of (lines side old) c);
  homes = λ side k. at_key (home_of (lines side new)) (home_of (lines side mid)) key (leaves side).home (leaves side).homes k ∙ ap (cond (eqb k key) None) (loses.homes side k) ∙ cond_more gone key k (home_of (lines side old) k);
  many = λ side. (leaves side).many ∙ loses.many side;
  len = omega (arith, len, loses.len, length-append gone (key ∷ []));
}

-- what is lost, and what is left of the row or column
pub record IsClearing {T : Type 0} (side : Side) (line : ℕ) (old now : Crossed T) : Type 0 where
  pub gone : List ℕ
  pub split : chain_of (lines side old) line ≡ gone ++ chain_of (lines side now) line
  pub loses : Loses gone old now
  pub crossed : IsCrossed now

pub clearing_starts : {T : Type 0} (side : Side) (line : ℕ) (table : Crossed T) → IsCrossed table → IsClearing side line table table
clearing_starts side line table crossed = record { gone = []; split = refl; loses = loses_nothing table; crossed = crossed }

-- the first one is there
pub first_is_there : {T : Type 0} (side : Side) (line key : ℕ) (table : Crossed T) → IsCrossed table → Some key ≡ first_of (chain_of (lines side table) line) → is_some (get table.items key) ≡ true
first_is_there side line key table crossed first =
    sym (crossed.placed side key) ∙ ap is_some (chain_at_first key line (lines side table) (crossed.sound side) (sym first)).0

append_assoc : (xs : List ℕ) (k : ℕ) (ys : List ℕ) → xs ++ k ∷ ys ≡ (xs ++ k ∷ []) ++ ys
append_assoc [] k ys = refl
append_assoc (x ∷ xs) k ys = ap (λ (l : List ℕ). x ∷ l) (append_assoc xs k ys)

pub clearing_steps : {T : Type 0} (side : Side) (line key : ℕ) (old mid new : Crossed T) → IsClearing side line old mid → Some key ≡ first_of (chain_of (lines side mid) line) → Updates mid.items new.items key None
    → ((s : Side) → Leaves key (lines s mid) (lines s new)) → slab_len new.items + 1 ≡ slab_len mid.items → IsCrossed new → IsClearing side line old new
clearing_steps side line key old mid new is first updates leaves len crossed =
    let table = lines side mid in
    let at = chain_at_first key line table (is.crossed.sound side) (sym first) in
    let rest : without key (chain_of table line) ≡ behind key (chain_of table line) =
    chain_without_key key line table (is.crossed.sound side) at.0 ∙ ap (λ (l : List ℕ). l ++ behind key (chain_of table line)) at.1 in
    record {
      gone = is.gone ++ key ∷ [];
      split = is.split ∙ ap (λ (l : List ℕ). is.gone ++ l) (at.2 ∙ ap (λ (l : List ℕ). key ∷ l) (sym rest ∙ sym ((leaves side).chains line))) ∙ append_assoc is.gone key (chain_of (lines side new) line);
      loses = loses_more is.gone key old mid new is.loses updates leaves len;
      crossed = crossed;
    }

no_first : (keys : List ℕ) → None ≡ first_of keys → keys ≡ []
no_first [] none = refl
no_first (k ∷ keys) none = cc none

pub clearing_ends : {T : Type 0} (side : Side) (line : ℕ) (old now : Crossed T) → IsClearing side line old now → None ≡ first_of (chain_of (lines side now) line) → Loses (chain_of (lines side old) line) old now
clearing_ends side line old now is none =
    subst (λ (keys : List ℕ). Loses keys old now) (sym (is.split ∙ ap (λ (l : List ℕ). is.gone ++ l) (no_first (chain_of (lines side now) line) none) ∙ append-nil is.gone)) is.loses

-- what is gone with a row or a column, key by key
pub record IsCleared {T : Type 0} (side : Side) (line : ℕ) (old new : Crossed T) : Type 0 where
  pub items : (k : ℕ) (item : T) → get new.items k ≡ Some item → get old.items k ≡ Some item
  pub homes : (s : Side) (k c : ℕ) → home_of (lines s new) k ≡ Some c → home_of (lines s old) k ≡ Some c
  pub gone : (k : ℕ) → home_of (lines side new) k ≡ Some line → ⊥
  pub kept : (k : ℕ) → (home_of (lines side old) k ≡ Some line → ⊥) → get new.items k ≡ get old.items k
  pub many : (s : Side) → length (lines s new).chains ≡ length (lines s old).chains

still_some : {X : Type 0} (lost : Bool) (new old : Option X) (x : X) → new ≡ cond lost None old → new ≡ Some x → old ≡ Some x
still_some true new old x is some = cc (sym some ∙ is)
still_some false new old x is some = sym is ∙ some

pub cleared : {T : Type 0} (side : Side) (line : ℕ) (old new : Crossed T) → IsCrossed old → Loses (chain_of (lines side old) line) old new → IsCleared side line old new
cleared side line old new crossed loses = record {
  items = λ k item there. still_some (lists keys k) (get new.items k) (get old.items k) item (loses.items k) there;
  homes = λ s k c home. still_some (lists keys k) (home_of (lines s new) k) (home_of (lines s old) k) c (loses.homes s k) home;
  gone = λ k home.
      let was = still_some (lists keys k) (home_of (lines side new) k) (home_of (lines side old) k) line (loses.homes side k) home in
      let none : home_of (lines side new) k ≡ None = loses.homes side k ∙ ap (λ (b : Bool). cond b None (home_of (lines side old) k)) ((crossed.sound side).listed line k was) in
      cc (sym home ∙ none);
  kept = λ k apart.
      let absent : lists keys k ≡ false = false_from_ne_true (lists keys k) (λ there. apart ((crossed.sound side).at_home line k there)) in
      loses.items k ∙ ap (λ (b : Bool). cond b None (get old.items k)) absent;
  many = loses.many;
} where
  keys : List ℕ
  keys = chain_of (lines side old) line
