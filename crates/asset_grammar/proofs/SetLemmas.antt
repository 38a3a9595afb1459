-- Which objects make a list.
use Rattle.std.proofs.Common.{◌≡◌, ℕ, ◌<◌, ◌≤◌, Bool, true, false, eqb, List, [], ◌∷◌, length, refl, ◌∙◌, ap, arith, inl, inr}
use Rattle.std.specs.List.{list_any}
use Rattle.std.proofs.lemmas.Bool.{or_cases, or_left, or_right, or_from, eqb-true, lt-ltb, lt-leb, le-leb}
use Rattle.asset_names.specs.declared.names.Ob.{Ob}
use Rattle.asset_names.specs.declared.sets.SetFault.{SetFault}
use Rattle.asset_names.specs.declared.sets.SetFault.TheVariants.{Empty, TooMany, Double}
use Rattle.asset_names.specs.Arrows.{lists}
use Rattle.asset_names.specs.Sets.{numbers, twice, HasNoDouble, IsLeastDouble}
use Rattle.asset_names.specs.SetFaults.{IsSetFault}
use Rattle.asset_names.proofs.DoubleLemmas.{twice_listed}
use Rattle.asset_grammar.specs.Sets.{is_list}

-- if no number is listed twice, no object is
none_twice : (test : ℕ → Bool) (objects : List Ob) → ((m : ℕ) → test m ≡ false) → list_any (λ (x : Ob). test x.0) objects ≡ false
none_twice test [] none = refl
none_twice test (x ∷ objects) none = or_from _ _ (none x.0) (none_twice test objects none)

-- an object that is listed and passes
one_passes : (test : ℕ → Bool) (objects : List Ob) (n : ℕ) → lists (numbers objects) n ≡ true → test n ≡ true → list_any (λ (x : Ob). test x.0) objects ≡ true
unfolding lists numbers
one_passes test [] n listed passes = listed
one_passes test (x ∷ objects) n listed passes = elim (or_cases (eqb x.0 n) _ listed) [
  | inl here ↦ or_left _ _ (ap test (eqb-true x.0 n here) ∙ passes)
  | inr later ↦ or_right (test x.0) _ (one_passes test objects n later passes)
]

-- objects that are taken make a list
pub makes_list : (objects : List Ob) → 0 < length objects → length objects ≤ 16 → HasNoDouble (numbers objects) → is_list objects ≡ true
unfolding is_list HasNoDouble
makes_list objects some few none = rw (lt-ltb 0 (length objects) some, le-leb (length objects) 16 few, none_twice (twice (numbers objects)) objects none) refl

-- objects that are refused do not
pub makes_none : (objects : List Ob) (fault : SetFault) → IsSetFault objects fault → is_list objects ≡ false
unfolding is_list IsLeastDouble
makes_none objects Empty h = rw h refl
makes_none objects TooMany h = rw (lt-leb (length objects) 16 h) (grind arith)
makes_none objects (Double x) h = rw (one_passes (twice (numbers objects)) objects x.0 (twice_listed (numbers objects) x.0 h.1.0) h.1.0) (grind arith)
