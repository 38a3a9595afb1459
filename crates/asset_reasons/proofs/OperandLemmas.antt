-- How objects are gathered part by part.
use Rattle.std.proofs.Common.{◌≡◌, ℕ, Bool, true, false, cond, List, [], ◌∷◌, length, Option, None, Some, refl, sym}
use Rattle.std.specs.Prelude.{nat_lt}
use Rattle.asset_names.specs.declared.names.Ob.{Ob}
use Rattle.asset_grammar.specs.Numbers.{number_of}
use Rattle.asset_grammar.specs.Operands.{ob, ob_of}
use Rattle.asset_grammar.specs.Sets.{gathered, one_more_object}

-- a part that is no number
no_object : (objects : List Ob) → one_more_object objects None ≡ None
unfolding one_more_object
no_object objects = go (nat_lt (length objects) 16) where
  go : (b : Bool) → cond {A = Option (List Ob)} b None None ≡ None
  go true = refl
  go false = refl

pub gather_none : (objects : List Ob) (parts rest : List (List ℕ)) (part : List ℕ) → parts ≡ part ∷ rest → None ≡ number_of part → gathered objects parts ≡ None
unfolding gathered ob_of
gather_none objects parts rest part cut none = rw (cut, sym none, no_object objects) refl

-- an object for which there is no room
pub gather_full : (objects : List Ob) (parts rest : List (List ℕ)) (part : List ℕ) (n : ℕ) → parts ≡ part ∷ rest → Some n ≡ number_of part → one_more_object objects (Some (ob n)) ≡ None → gathered objects parts ≡ None
unfolding gathered ob_of
gather_full objects parts rest part n cut is full = rw (cut, sym is, full) refl

-- an object more
pub gather_more : (objects more : List Ob) (parts rest : List (List ℕ)) (part : List ℕ) (n : ℕ) → parts ≡ part ∷ rest → Some n ≡ number_of part → one_more_object objects (Some (ob n)) ≡ Some more → gathered objects parts ≡ gathered more rest
unfolding gathered ob_of
gather_more objects more parts rest part n cut is added = rw (cut, sym is, added) refl

-- no part more
pub gather_end : (objects : List Ob) (parts : List (List ℕ)) → parts ≡ [] → gathered objects parts ≡ Some objects
unfolding gathered
gather_end objects parts none = rw none refl
