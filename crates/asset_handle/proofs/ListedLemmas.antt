-- Which objects make a list.
use Rattle.std.proofs.Common.{◌≡◌, ℕ, ◌<◌, ◌≤◌, ◌==◌, Bool, true, false, eqb, List, [], ◌∷◌, length, take, refl, sym, ◌∙◌, ap, arith, inl, inr}
use Rattle.std.specs.Prelude.{Some}
use Rattle.std.specs.List.Sorted.{IsStrictlyIncreasing}
use Rattle.std.proofs.lemmas.List.Sorted.{IsPermutation-refl}
use Rattle.asset_names.specs.declared.sets.ObSet.TheVariants.{Listed}
use Rattle.asset_names.proofs.RisingLemmas.{increasing_no_double, kept_is_rising}
use Rattle.std.specs.List.{list_any}
use Rattle.std.proofs.lemmas.Bool.{or_cases, or_left, or_right, or_from, eqb-true, lt-ltb, lt-leb, le-leb}
use Rattle.asset_names.specs.declared.names.Ob.{Ob}
use Rattle.asset_names.specs.declared.sets.SetFault.{SetFault}
use Rattle.asset_names.specs.declared.sets.SetFault.TheVariants.{Empty, TooMany, Double}
use Rattle.asset_names.specs.Arrows.{lists}
use Rattle.asset_names.specs.Sets.{numbers, twice, HasNoDouble, IsLeastDouble}
use Rattle.asset_names.specs.SetFaults.{IsSetFault}
use Rattle.asset_names.proofs.DoubleLemmas.{twice_listed}
use Rattle.asset_handle.specs.Listed.{makes_list, objects_named, set_in, set_of_listed}

-- if no number is listed twice, no object is
none_twice : (test : ℕ → Bool) (objects : List Ob) → ((m : ℕ) → test m ≡ false) → list_any (λ (x : Ob). test x.0) objects ≡ false
none_twice test [] none = refl
none_twice test (x ∷ objects) none = or_from _ _ (none x.0) (none_twice test objects none)

-- an object that is listed and passes
one_passes : (test : ℕ → Bool) (objects : List Ob) (n : ℕ) → lists (numbers objects) n ≡ true → test n ≡ true → list_any (λ (x : Ob). test x.0) objects ≡ true
unfolding lists numbers
one_passes test [] n listed passes = listed
one_passes test (x ∷ objects) n listed passes = elim (or_cases (eqb x.0 n) _ listed) [
  | inl here ↦ or_left _ _ (ap test (eqb-true x.0 n here) ∙ passes)
  | inr later ↦ or_right (test x.0) _ (one_passes test objects n later passes)
]

-- objects that are taken make a list
pub list_is_made : (objects : List Ob) → 0 < length objects → length objects ≤ 16 → HasNoDouble (numbers objects) → makes_list objects ≡ true
unfolding makes_list HasNoDouble
list_is_made objects some few none = rw (lt-ltb 0 (length objects) some, le-leb (length objects) 16 few, none_twice (twice (numbers objects)) objects none) refl

-- objects that are refused do not
pub no_list_is_made : (objects : List Ob) (fault : SetFault) → IsSetFault objects fault → makes_list objects ≡ false
unfolding makes_list IsLeastDouble
no_list_is_made objects Empty h = rw h refl
no_list_is_made objects TooMany h = rw (lt-leb (length objects) 16 h) (grind arith)
no_list_is_made objects (Double x) h = rw (one_passes (twice (numbers objects)) objects x.0 (twice_listed (numbers objects) x.0 h.1.0) h.1.0) (grind arith)

-- the objects of their own numbers
named_numbers : (objects : List Ob) → objects_named (numbers objects) ≡ objects
unfolding objects_named numbers
named_numbers [] = refl
named_numbers (x ∷ objects) = ap (λ rest. x ∷ rest) (named_numbers objects)

-- objects that rise are the set that they make
rising_set : (objects : List Ob) → 0 < length objects → length objects ≤ 16 → IsStrictlyIncreasing (numbers objects) → set_of_listed objects ≡ Some (Listed objects)
unfolding set_of_listed
rising_set objects some few up =
    let none = increasing_no_double objects up in
    rw (list_is_made objects some few none) (ap (λ kept. Some (Listed kept)) (sym (kept_is_rising objects objects (IsPermutation-refl objects) up none)))

-- a list of objects whose numbers stand in the first slots
pub listed_back : (objects : List Ob) (slots : List ℕ) → 0 < length objects → length objects ≤ 16 → IsStrictlyIncreasing (numbers objects) → take (length objects) slots ≡ numbers objects → set_in (length objects) slots ≡ Some (Listed objects)
unfolding set_in
listed_back objects slots some few up stand =
    rw (not_all (length objects) few, le-leb (length objects) 16 few, stand, named_numbers objects) (rising_set objects some few up) where
      not_all : (n : ℕ) → n ≤ 16 → (n == 18446744073709551615) ≡ false
      not_all n low = grind (arith, low)
