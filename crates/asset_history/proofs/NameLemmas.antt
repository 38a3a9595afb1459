-- Names in order of first use, entry by entry.
use Rattle.std.proofs.Common.{◌≡◌, ℕ, ◌+◌, ◌≤◌, ◌*◌, Bool, true, false, cond, eqb, ◌||◌, List, [], ◌∷◌, ◌++◌, length, refl, sym, ap, ◌∙◌, arith}
use Rattle.std.proofs.lemmas.Bool.{eqb-true}
use Rattle.std.proofs.lemmas.List.{length_push}
use Rattle.asset_names.specs.Arrows.{lists, with_name}
use Rattle.asset_names.specs.Steps.{Entry}
use Rattle.asset_names.specs.Groups.{actor, partner, acted_on_by, acted_on}
use Rattle.asset_names.proofs.ListLemmas.{lists_pushed}
use Rattle.asset_history.specs.Named.{names_of}

-- ---- one more name
pub with_new : (names : List ℕ) (n : ℕ) → lists names n ≡ false → with_name names n ≡ names ++ n ∷ []
unfolding with_name
with_new names n new = ap (λ b. cond b names (names ++ n ∷ [])) new

pub with_old : (names : List ℕ) (n : ℕ) → lists names n ≡ true → with_name names n ≡ names
unfolding with_name
with_old names n old = ap (λ b. cond b names (names ++ n ∷ [])) old

-- ---- the names are of those who were acted on
pub names_more : (names : List ℕ) (n m : ℕ) → lists (with_name names n) m ≡ (lists names m || eqb n m)
unfolding with_name
names_more names n m = go (lists names n) refl where
  here : (b : Bool) → eqb n m ≡ b → lists names n ≡ true → lists names m ≡ (lists names m || b)
  here false e h = none (lists names m) where
    none : (a : Bool) → a ≡ (a || false)
    none true = refl
    none false = refl
  here true e h = (ap (lists names) (sym (eqb-true n m e)) ∙ h) ∙ sym (all (lists names m)) where
    all : (a : Bool) → (a || true) ≡ true
    all true = refl
    all false = refl

  go : (b : Bool) → lists names n ≡ b → lists (cond b names (names ++ n ∷ [])) m ≡ (lists names m || eqb n m)
  go true e = here (eqb n m) refl e
  go false e = lists_pushed names n m

pub all_acted : (entries : List Entry) (n : ℕ) → lists (names_of entries) n ≡ lists (acted_on entries) n
unfolding names_of acted_on acted_on_by lists
all_acted [] n = refl
all_acted (entry ∷ older) n =
    names_more _ (partner entry.0).0 n ∙ ap (λ b. b || eqb (partner entry.0).0 n) (names_more (names_of older) (actor entry.0).0 n ∙ ap (λ b. b || eqb (actor entry.0).0 n) (all_acted older n))
    ∙ turned (lists (acted_on older) n) (eqb (actor entry.0).0 n) (eqb (partner entry.0).0 n) where
      turned : (a b c : Bool) → ((a || b) || c) ≡ (b || (c || a))
      turned true true c = refl
      turned true false true = refl
      turned true false false = refl
      turned false true c = refl
      turned false false true = refl
      turned false false false = refl

-- a name more at most, and two for an entry
pub with_name_few : (names : List ℕ) (n : ℕ) → length (with_name names n) ≤ length names + 1
unfolding with_name
with_name_few names n = elim (lists names n) as (λ b. length (cond b names (names ++ n ∷ [])) ≤ length names + 1) [
  | true ↦ omega arith
  | false ↦ omega (arith, length_push names n)
]

pub names_few : (entries : List Entry) → length (names_of entries) ≤ 2 * length entries
unfolding names_of
names_few [] = omega arith
names_few (entry ∷ older) = omega (arith, names_few older, with_name_few (names_of older) (actor entry.0).0, with_name_few (with_name (names_of older) (actor entry.0).0) (partner entry.0).0)
