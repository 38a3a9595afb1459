-- Operands, taken word by word.
use Rattle.std.proofs.Common.{◌≡◌, ℕ, Bool, true, false, cond, List, [], ◌∷◌, Option, None, Some, refl, ◌∙◌}
use Rattle.std.specs.Prelude.{option_and_then, option_map, ℤ}
use Rattle.std.proofs.lemmas.Option.{some_pair_parts}
use Rattle.asset_names.specs.declared.names.Txn.{Txn}
use Rattle.asset_names.specs.declared.names.Ob.{Ob}
use Rattle.asset_names.specs.declared.sets.ObSet.{ObSet}
use Rattle.asset_names.specs.declared.steps.Kind.{Kind}
use Rattle.asset_names.specs.OpSets.{OpSet}
use Rattle.asset_grammar.specs.DependOperands.{kind_of, kind_and_txns}
use Rattle.asset_grammar.specs.Numbers.{value_of}
use Rattle.asset_grammar.specs.Operands.{txn_of, ob_of, both, all_three, one_txn, one_object, txn_and_parent, txn_and_object, object_and_value, txn_object_and_value}
use Rattle.asset_grammar.specs.PermitOperands.{taker_of, txn_taker_ops_and_set, txns_and_set}
use Rattle.asset_grammar.specs.Sets.{ops_of, set_of}
use Rattle.asset_grammar.specs.Words.{none_left, taken}

abbrev Words : Type 0
Words = List (List ℕ)

-- what is read, if no word is left
abbrev pub closed : {A : Type 0} → A → Words → Option A
closed x words = cond (none_left words) (Some x) None

-- a word, and then those after it
unfoldable pub then : {A B : Type 0} → (List ℕ → Option A) → Words → (A → Words → Option B) → Option B
then read [] go = None
then read (word ∷ rest) go = option_and_then (λ x. go x rest) (read word)

-- a word that is read, and one that is not
pub then_some : {A B : Type 0} (read : List ℕ → Option A) (words rest : Words) (go : A → Words → Option B) (x : A) → taken read words ≡ Some (x, rest) → then read words go ≡ go x rest
unfolding taken then
then_some read [] rest go x e = absurd (cc)
then_some {A} {B} read (word ∷ more) rest go x e = at (read word) e where
  at : (o : Option A) → option_map {U = A × Words} (λ y. (y, more)) o ≡ Some (x, rest) → option_and_then (λ y. go y more) o ≡ go x rest
  at None h = absurd (cc)
  at (Some y) h =
      let same = some_pair_parts y x more rest h in
      rw (same.0, same.1) refl

pub then_none : {A B : Type 0} (read : List ℕ → Option A) (words : Words) (go : A → Words → Option B) → taken read words ≡ None → then read words go ≡ None
unfolding taken then
then_none read [] go e = refl
then_none {A} {B} read (word ∷ more) go e = at (read word) e where
  at : (o : Option A) → option_map {U = A × Words} (λ y. (y, more)) o ≡ None → option_and_then (λ y. go y more) o ≡ None
  at None h = refl
  at (Some y) h = absurd (cc)

-- what is read is it if no word is left
pub closed_over : {A : Type 0} (x : A) (words : Words) (over : Bool) → over ≡ none_left words → over ≡ true → closed x words ≡ Some x
closed_over x words over e h = rw (← e, h) refl

pub closed_more : {A : Type 0} (x : A) (words : Words) (over : Bool) → over ≡ none_left words → over ≡ false → closed x words ≡ None
closed_more x words over e h = rw (← e, h) refl

-- what a word is read as, and then made
pub taken_mapped : {A B : Type 0} (f : A → B) (read : List ℕ → Option A) (words rest : Words) (x : A) → taken read words ≡ Some (x, rest) → taken (λ word. option_map f (read word)) words ≡ Some (f x, rest)
unfolding taken
taken_mapped f read [] rest x e = absurd (cc)
taken_mapped {A} {B} f read (word ∷ more) rest x e = at (read word) e where
  at : (o : Option A) → option_map {U = A × Words} (λ y. (y, more)) o ≡ Some (x, rest) → option_map {U = B × Words} (λ y. (y, more)) (option_map f o) ≡ Some (f x, rest)
  at None h = absurd (cc)
  at (Some y) h =
      let same = some_pair_parts y x more rest h in
      rw (same.0, same.1) refl

pub none_mapped : {A B : Type 0} (f : A → B) (read : List ℕ → Option A) (words : Words) → taken read words ≡ None → taken (λ word. option_map f (read word)) words ≡ None
unfolding taken
none_mapped f read [] e = refl
none_mapped {A} {B} f read (word ∷ more) e = at (read word) e where
  at : (o : Option A) → option_map {U = A × Words} (λ y. (y, more)) o ≡ None → option_map {U = B × Words} (λ y. (y, more)) (option_map f o) ≡ None
  at None h = refl
  at (Some y) h = absurd (cc)

-- Each shape of operands is taken word by word: too few words and too many are none.
pub one_txn_taken : (words : Words) → one_txn words ≡ then txn_of words (λ x. closed {A = Txn} x)
unfolding one_txn then none_left
one_txn_taken [] = refl
one_txn_taken (a ∷ []) = go (txn_of a) where
  go : (o : Option Txn) → o ≡ option_and_then {U = Txn} (λ x. Some x) o
  go None = refl
  go (Some x) = refl
one_txn_taken (a ∷ more ∷ rest) = go (txn_of a) where
  go : (o : Option Txn) → None ≡ option_and_then {U = Txn} (λ x. None) o
  go None = refl
  go (Some x) = refl

pub one_object_taken : (words : Words) → one_object words ≡ then ob_of words (λ x. closed {A = Ob} x)
unfolding one_object then none_left
one_object_taken [] = refl
one_object_taken (a ∷ []) = go (ob_of a) where
  go : (o : Option Ob) → o ≡ option_and_then {U = Ob} (λ x. Some x) o
  go None = refl
  go (Some x) = refl
one_object_taken (a ∷ more ∷ rest) = go (ob_of a) where
  go : (o : Option Ob) → None ≡ option_and_then {U = Ob} (λ x. None) o
  go None = refl
  go (Some x) = refl

pub txn_and_object_taken : (words : Words) → txn_and_object words ≡ then txn_of words (λ x ws. then ob_of ws (λ y. closed {A = Txn × Ob} (x, y)))
unfolding txn_and_object then none_left both
txn_and_object_taken [] = refl
txn_and_object_taken (a ∷ []) = go (txn_of a) where
  go : (o : Option Txn) → None ≡ option_and_then {U = Txn × Ob} (λ x. None) o
  go None = refl
  go (Some x) = refl
txn_and_object_taken (a ∷ b ∷ []) = go (txn_of a) (ob_of b) where
  go : (o1 : Option Txn) (o2 : Option Ob) → both o1 o2 ≡ option_and_then {U = Txn × Ob} (λ x. option_and_then {U = Txn × Ob} (λ y. Some (x, y)) o2) o1
  go None o2 = refl
  go (Some x) None = refl
  go (Some x) (Some y) = refl
txn_and_object_taken (a ∷ b ∷ more ∷ rest) = go (txn_of a) (ob_of b) where
  go : (o1 : Option Txn) (o2 : Option Ob) → None ≡ option_and_then {U = Txn × Ob} (λ x. option_and_then {U = Txn × Ob} (λ y. None) o2) o1
  go None o2 = refl
  go (Some x) None = refl
  go (Some x) (Some y) = refl

pub object_and_value_taken : (words : Words) → object_and_value words ≡ then ob_of words (λ x ws. then value_of ws (λ y. closed {A = Ob × ℤ} (x, y)))
unfolding object_and_value then none_left both
object_and_value_taken [] = refl
object_and_value_taken (a ∷ []) = go (ob_of a) where
  go : (o : Option Ob) → None ≡ option_and_then {U = Ob × ℤ} (λ x. None) o
  go None = refl
  go (Some x) = refl
object_and_value_taken (a ∷ b ∷ []) = go (ob_of a) (value_of b) where
  go : (o1 : Option Ob) (o2 : Option ℤ) → both o1 o2 ≡ option_and_then {U = Ob × ℤ} (λ x. option_and_then {U = Ob × ℤ} (λ y. Some (x, y)) o2) o1
  go None o2 = refl
  go (Some x) None = refl
  go (Some x) (Some y) = refl
object_and_value_taken (a ∷ b ∷ more ∷ rest) = go (ob_of a) (value_of b) where
  go : (o1 : Option Ob) (o2 : Option ℤ) → None ≡ option_and_then {U = Ob × ℤ} (λ x. option_and_then {U = Ob × ℤ} (λ y. None) o2) o1
  go None o2 = refl
  go (Some x) None = refl
  go (Some x) (Some y) = refl

pub txn_object_and_value_taken : (words : Words) → txn_object_and_value words ≡ then txn_of words (λ x ws. then ob_of ws (λ y ws. then value_of ws (λ z. closed {A = Txn × Ob × ℤ} (x, y, z))))
unfolding txn_object_and_value then none_left all_three
txn_object_and_value_taken [] = refl
txn_object_and_value_taken (a ∷ []) = go (txn_of a) where
  go : (o : Option Txn) → None ≡ option_and_then {U = Txn × Ob × ℤ} (λ x. None) o
  go None = refl
  go (Some x) = refl
txn_object_and_value_taken (a ∷ b ∷ []) = go (txn_of a) (ob_of b) where
  go : (o1 : Option Txn) (o2 : Option Ob) → None ≡ option_and_then {U = Txn × Ob × ℤ} (λ x. option_and_then {U = Txn × Ob × ℤ} (λ y. None) o2) o1
  go None o2 = refl
  go (Some x) None = refl
  go (Some x) (Some y) = refl
txn_object_and_value_taken (a ∷ b ∷ c ∷ []) = go (txn_of a) (ob_of b) (value_of c) where
  go : (o1 : Option Txn) (o2 : Option Ob) (o3 : Option ℤ) → all_three o1 o2 o3 ≡ option_and_then {U = Txn × Ob × ℤ} (λ x. option_and_then {U = Txn × Ob × ℤ} (λ y. option_and_then {U = Txn × Ob × ℤ} (λ z. Some (x, y, z)) o3) o2) o1
  go None o2 o3 = refl
  go (Some x) None o3 = refl
  go (Some x) (Some y) None = refl
  go (Some x) (Some y) (Some z) = refl
txn_object_and_value_taken (a ∷ b ∷ c ∷ more ∷ rest) = go (txn_of a) (ob_of b) (value_of c) where
  go : (o1 : Option Txn) (o2 : Option Ob) (o3 : Option ℤ) → None ≡ option_and_then {U = Txn × Ob × ℤ} (λ x. option_and_then {U = Txn × Ob × ℤ} (λ y. option_and_then {U = Txn × Ob × ℤ} (λ z. None) o3) o2) o1
  go None o2 o3 = refl
  go (Some x) None o3 = refl
  go (Some x) (Some y) None = refl
  go (Some x) (Some y) (Some z) = refl

pub txns_and_set_taken : (words : Words) → txns_and_set words ≡ then txn_of words (λ x ws. then txn_of ws (λ y ws. then set_of ws (λ z. closed {A = (Txn × Txn) × ObSet} ((x, y), z))))
unfolding txns_and_set then none_left both
txns_and_set_taken [] = refl
txns_and_set_taken (a ∷ []) = go (txn_of a) where
  go : (o : Option Txn) → None ≡ option_and_then {U = (Txn × Txn) × ObSet} (λ x. None) o
  go None = refl
  go (Some x) = refl
txns_and_set_taken (a ∷ b ∷ []) = go (txn_of a) (txn_of b) where
  go : (o1 : Option Txn) (o2 : Option Txn) → None ≡ option_and_then {U = (Txn × Txn) × ObSet} (λ x. option_and_then {U = (Txn × Txn) × ObSet} (λ y. None) o2) o1
  go None o2 = refl
  go (Some x) None = refl
  go (Some x) (Some y) = refl
txns_and_set_taken (a ∷ b ∷ c ∷ []) = go (txn_of a) (txn_of b) (set_of c) where
  go : (o1 : Option Txn) (o2 : Option Txn) (o3 : Option ObSet) → both (both o1 o2) o3 ≡ option_and_then {U = (Txn × Txn) × ObSet} (λ x. option_and_then {U = (Txn × Txn) × ObSet} (λ y. option_and_then {U = (Txn × Txn) × ObSet} (λ z. Some ((x, y), z)) o3) o2) o1
  go None o2 o3 = refl
  go (Some x) None o3 = refl
  go (Some x) (Some y) None = refl
  go (Some x) (Some y) (Some z) = refl
txns_and_set_taken (a ∷ b ∷ c ∷ more ∷ rest) = go (txn_of a) (txn_of b) (set_of c) where
  go : (o1 : Option Txn) (o2 : Option Txn) (o3 : Option ObSet) → None ≡ option_and_then {U = (Txn × Txn) × ObSet} (λ x. option_and_then {U = (Txn × Txn) × ObSet} (λ y. option_and_then {U = (Txn × Txn) × ObSet} (λ z. None) o3) o2) o1
  go None o2 o3 = refl
  go (Some x) None o3 = refl
  go (Some x) (Some y) None = refl
  go (Some x) (Some y) (Some z) = refl

pub kind_and_txns_taken : (words : Words) → kind_and_txns words ≡ then kind_of words (λ x ws. then txn_of ws (λ y ws. then txn_of ws (λ z. closed {A = Kind × (Txn × Txn)} (x, (y, z)))))
unfolding kind_and_txns then none_left both
kind_and_txns_taken [] = refl
kind_and_txns_taken (a ∷ []) = go (kind_of a) where
  go : (o : Option Kind) → None ≡ option_and_then {U = Kind × (Txn × Txn)} (λ x. None) o
  go None = refl
  go (Some x) = refl
kind_and_txns_taken (a ∷ b ∷ []) = go (kind_of a) (txn_of b) where
  go : (o1 : Option Kind) (o2 : Option Txn) → None ≡ option_and_then {U = Kind × (Txn × Txn)} (λ x. option_and_then {U = Kind × (Txn × Txn)} (λ y. None) o2) o1
  go None o2 = refl
  go (Some x) None = refl
  go (Some x) (Some y) = refl
kind_and_txns_taken (a ∷ b ∷ c ∷ []) = go (kind_of a) (txn_of b) (txn_of c) where
  go : (o1 : Option Kind) (o2 : Option Txn) (o3 : Option Txn) → both o1 (both o2 o3) ≡ option_and_then {U = Kind × (Txn × Txn)} (λ x. option_and_then {U = Kind × (Txn × Txn)} (λ y. option_and_then {U = Kind × (Txn × Txn)} (λ z. Some (x, (y, z))) o3) o2) o1
  go None o2 o3 = refl
  go (Some x) None o3 = refl
  go (Some x) (Some y) None = refl
  go (Some x) (Some y) (Some z) = refl
kind_and_txns_taken (a ∷ b ∷ c ∷ more ∷ rest) = go (kind_of a) (txn_of b) (txn_of c) where
  go : (o1 : Option Kind) (o2 : Option Txn) (o3 : Option Txn) → None ≡ option_and_then {U = Kind × (Txn × Txn)} (λ x. option_and_then {U = Kind × (Txn × Txn)} (λ y. option_and_then {U = Kind × (Txn × Txn)} (λ z. None) o3) o2) o1
  go None o2 o3 = refl
  go (Some x) None o3 = refl
  go (Some x) (Some y) None = refl
  go (Some x) (Some y) (Some z) = refl

pub txn_taker_ops_and_set_taken : (words : Words) → txn_taker_ops_and_set words ≡ then txn_of words (λ x ws. then taker_of ws (λ y ws. then ops_of ws (λ z ws. then set_of ws (λ w. closed {A = (Txn × Option Txn) × (OpSet × ObSet)} ((x, y), (z, w))))))
unfolding txn_taker_ops_and_set then none_left both
txn_taker_ops_and_set_taken [] = refl
txn_taker_ops_and_set_taken (a ∷ []) = go (txn_of a) where
  go : (o : Option Txn) → None ≡ option_and_then {U = (Txn × Option Txn) × (OpSet × ObSet)} (λ x. None) o
  go None = refl
  go (Some x) = refl
txn_taker_ops_and_set_taken (a ∷ b ∷ []) = go (txn_of a) (taker_of b) where
  go : (o1 : Option Txn) (o2 : Option (Option Txn)) → None ≡ option_and_then {U = (Txn × Option Txn) × (OpSet × ObSet)} (λ x. option_and_then {U = (Txn × Option Txn) × (OpSet × ObSet)} (λ y. None) o2) o1
  go None o2 = refl
  go (Some x) None = refl
  go (Some x) (Some y) = refl
txn_taker_ops_and_set_taken (a ∷ b ∷ c ∷ []) = go (txn_of a) (taker_of b) (ops_of c) where
  go : (o1 : Option Txn) (o2 : Option (Option Txn)) (o3 : Option OpSet) → None ≡ option_and_then {U = (Txn × Option Txn) × (OpSet × ObSet)} (λ x. option_and_then {U = (Txn × Option Txn) × (OpSet × ObSet)} (λ y. option_and_then {U = (Txn × Option Txn) × (OpSet × ObSet)} (λ z. None) o3) o2) o1
  go None o2 o3 = refl
  go (Some x) None o3 = refl
  go (Some x) (Some y) None = refl
  go (Some x) (Some y) (Some z) = refl
txn_taker_ops_and_set_taken (a ∷ b ∷ c ∷ d ∷ []) = go (txn_of a) (taker_of b) (ops_of c) (set_of d) where
  go : (o1 : Option Txn) (o2 : Option (Option Txn)) (o3 : Option OpSet) (o4 : Option ObSet) → both (both o1 o2) (both o3 o4) ≡ option_and_then {U = (Txn × Option Txn) × (OpSet × ObSet)} (λ x. option_and_then {U = (Txn × Option Txn) × (OpSet × ObSet)} (λ y. option_and_then {U = (Txn × Option Txn) × (OpSet × ObSet)} (λ z. option_and_then {U = (Txn × Option Txn) × (OpSet × ObSet)} (λ w. Some ((x, y), (z, w))) o4) o3) o2) o1
  go None o2 o3 o4 = refl
  go (Some x) None o3 o4 = refl
  go (Some x) (Some y) None o4 = refl
  go (Some x) (Some y) (Some z) None = refl
  go (Some x) (Some y) (Some z) (Some w) = refl
txn_taker_ops_and_set_taken (a ∷ b ∷ c ∷ d ∷ more ∷ rest) = go (txn_of a) (taker_of b) (ops_of c) (set_of d) where
  go : (o1 : Option Txn) (o2 : Option (Option Txn)) (o3 : Option OpSet) (o4 : Option ObSet) → None ≡ option_and_then {U = (Txn × Option Txn) × (OpSet × ObSet)} (λ x. option_and_then {U = (Txn × Option Txn) × (OpSet × ObSet)} (λ y. option_and_then {U = (Txn × Option Txn) × (OpSet × ObSet)} (λ z. option_and_then {U = (Txn × Option Txn) × (OpSet × ObSet)} (λ w. None) o4) o3) o2) o1
  go None o2 o3 o4 = refl
  go (Some x) None o3 o4 = refl
  go (Some x) (Some y) None o4 = refl
  go (Some x) (Some y) (Some z) None = refl
  go (Some x) (Some y) (Some z) (Some w) = refl

-- the first is a child of the second, if there is one
pub txn_and_parent_taken : (words : Words) → txn_and_parent words ≡ then txn_of words (λ x ws. cond (none_left ws) (Some (x, None)) (then txn_of ws (λ y. closed {A = Txn × Option Txn} (x, Some y))))
unfolding txn_and_parent then none_left both
txn_and_parent_taken [] = refl
txn_and_parent_taken (a ∷ []) = go (txn_of a) where
  go : (o : Option Txn) → both {B = Option Txn} o (Some None) ≡ option_and_then {U = Txn × Option Txn} (λ x. Some (x, None)) o
  go None = refl
  go (Some x) = refl
txn_and_parent_taken (a ∷ b ∷ []) = go (txn_of a) (txn_of b) where
  go : (o1 : Option Txn) (o2 : Option Txn) → both o1 (option_map Some o2) ≡ option_and_then {U = Txn × Option Txn} (λ x. option_and_then {U = Txn × Option Txn} (λ y. Some (x, Some y)) o2) o1
  go None o2 = refl
  go (Some x) None = refl
  go (Some x) (Some y) = refl
txn_and_parent_taken (a ∷ b ∷ more ∷ rest) = go (txn_of a) (txn_of b) where
  go : (o1 : Option Txn) (o2 : Option Txn) → None ≡ option_and_then {U = Txn × Option Txn} (λ x. option_and_then {U = Txn × Option Txn} (λ y. None) o2) o1
  go None o2 = refl
  go (Some x) None = refl
  go (Some x) (Some y) = refl

pub parent_none : (words rest : Words) (t : Txn) (over : Bool) → taken txn_of words ≡ Some (t, rest) → over ≡ none_left rest → over ≡ true → txn_and_parent words ≡ Some (t, None)
parent_none words rest t over e is h = txn_and_parent_taken words ∙ then_some txn_of words rest _ t e ∙ rw (← is, h) refl

pub parent_read : (words rest : Words) (t : Txn) (over : Bool) → taken txn_of words ≡ Some (t, rest) → over ≡ none_left rest → over ≡ false → txn_and_parent words ≡ then txn_of rest (λ y. closed {A = Txn × Option Txn} (t, Some y))
parent_read words rest t over e is h = txn_and_parent_taken words ∙ then_some txn_of words rest _ t e ∙ rw (← is, h) refl
