-- The words of a shape are wrong exactly if the grammar does not read them.
use Rattle.std.proofs.Common.{◌≡◌, ℕ, ◌&&◌, ◌||◌, Bool, true, false, cond, List, [], ◌∷◌, Option, None, Some, refl, ap, ◌∙◌, sym}
use Rattle.std.specs.Prelude.{is_some, not, option_and_then, option_map, codes}
use Rattle.std.specs.Str.{bytes_eq}
use Rattle.asset_names.specs.declared.names.Ob.{Ob}
use Rattle.asset_names.specs.declared.names.Txn.{Txn}
use Rattle.asset_names.specs.declared.sets.ObSet.{ObSet}
use Rattle.asset_names.specs.declared.sets.ObSet.TheVariants.{All, Listed}
use Rattle.asset_names.specs.declared.steps.Step.{Step}
use Rattle.asset_names.specs.OpSets.{OpSet}
use Rattle.asset_names.specs.Sets.{rising}
use Rattle.asset_grammar.specs.DependOperands.{kind_of, kind_and_txns}
use Rattle.asset_grammar.specs.Numbers.{number_of, value_of}
use Rattle.asset_grammar.specs.Operands.{txn_of, ob_of, both, all_three, one_txn, txn_and_parent, txn_and_object, object_and_value, txn_object_and_value}
use Rattle.asset_grammar.specs.PermitOperands.{permit_step, taker_of, txn_taker_ops_and_set, txns_and_set}
use Rattle.asset_grammar.specs.Sets.{gathered, is_list, listed, ops_of, set_of}
use Rattle.asset_grammar.specs.Words.{parts}
use Rattle.asset_reasons.specs.declared.reasons.Operand.{Operand}
use Rattle.asset_reasons.specs.declared.reasons.Operand.TheVariants as Operand'
use Rattle.asset_reasons.specs.declared.reasons.Shape.{Shape}
use Rattle.asset_reasons.specs.declared.reasons.Shape.TheVariants.{ObjectAndValue, TxnAndParent, OneTxn, TxnAndObject, TxnObjectAndValue, TxnObjectAndAmount, TxnsOpsAndSet, TxnsAndSet, KindAndTxns}
use Rattle.asset_reasons.specs.Mistakes.{Found, about, first_mistake, fits, is_single, kind_mistake, list_mistake, names_anybody, number_mistake, operand_mistake, operands_of, ops_mistake, set_mistake, shape_mistake, taker_mistake, value_mistake}

pub some_mapped : {A B : Type 0} (f : A → B) (o : Option A) → is_some (option_map f o) ≡ is_some o
some_mapped f None = refl
some_mapped f (Some x) = refl

some_unless : {A : Type 0} (b : Bool) (x : A) → is_some (cond b None (Some x)) ≡ not b
some_unless true x = refl
some_unless false x = refl

some_first : {A : Type 0} (a b : Option A) → is_some (cond (is_some a) a b) ≡ cond (is_some a) true (is_some b)
some_first None b = refl
some_first (Some x) b = refl

some_both : {A B : Type 0} (a : Option A) (b : Option B) → is_some (both a b) ≡ (is_some a && is_some b)
unfolding both
some_both None b = refl
some_both (Some x) None = refl
some_both (Some x) (Some y) = refl

some_all : {A B C : Type 0} (a : Option A) (b : Option B) (c : Option C) → is_some (all_three a b c) ≡ (is_some a && (is_some b && is_some c))
unfolding all_three
some_all None b c = refl
some_all (Some x) None c = refl
some_all (Some x) (Some y) None = refl
some_all (Some x) (Some y) (Some z) = refl

-- the permit with these operands
abbrev pub permit_made : (Txn × Option Txn) × (OpSet × ObSet) → Option Step
permit_made a = permit_step a.0.0 a.0.1 a.1.0 a.1.1

-- whether the grammar reads a word as such an operand
abbrev reads : Operand → List ℕ → Bool
reads Operand'.Number word = is_some (number_of word)
reads Operand'.Taker word = bytes_eq word (codes "any") || is_some (number_of word)
reads Operand'.Value word = is_some (value_of word)
reads Operand'.Operations word = is_some (ops_of word)
reads Operand'.Set word = is_some (set_of word)
reads Operand'.List word = not (bytes_eq word (codes "all")) && is_some (set_of word)
reads Operand'.Kind word = is_some (kind_of word)

operand_told : (operand : Operand) (word : List ℕ) → is_some (operand_mistake operand word) ≡ not (reads operand word)
unfolding operand_mistake number_mistake taker_mistake value_mistake ops_mistake set_mistake list_mistake kind_mistake
operand_told Operand'.Number word = some_mapped (about word) (number_mistake word) ∙ some_unless (is_some (number_of word)) _
operand_told Operand'.Taker word = some_mapped (about word) (taker_mistake word) ∙ go (bytes_eq word (codes "any")) where
  go : (any : Bool) → is_some (cond any None (number_mistake word)) ≡ not (any || is_some (number_of word))
  go true = refl
  go false = some_unless (is_some (number_of word)) _
operand_told Operand'.Value word = some_mapped (about word) (value_mistake word) ∙ some_unless (is_some (value_of word)) _
operand_told Operand'.Operations word = some_mapped (about word) (ops_mistake word) ∙ some_unless (is_some (ops_of word)) _
operand_told Operand'.Set word = some_unless (is_some (set_of word)) _
operand_told Operand'.List word = some_unless (not (bytes_eq word (codes "all")) && is_some (set_of word)) _
operand_told Operand'.Kind word = some_mapped (about word) (kind_mistake word) ∙ some_unless (is_some (kind_of word)) _

-- whether it reads each word as its operand
abbrev reads_each : List Operand → List (List ℕ) → Bool
reads_each [] words = true
reads_each (operand ∷ operands) [] = true
reads_each (operand ∷ operands) (word ∷ words) = reads operand word && reads_each operands words

not_both : (a b : Bool) → cond (not a) true (not b) ≡ not (a && b)
not_both true b = refl
not_both false b = refl

each_told : (operands : List Operand) (words : List (List ℕ)) → is_some (first_mistake operands words) ≡ not (reads_each operands words)
unfolding first_mistake
each_told [] words = refl
each_told (operand ∷ operands) [] = refl
each_told (operand ∷ operands) (word ∷ words) =
    some_first (operand_mistake operand word) (first_mistake operands words)
    ∙ rw (operand_told operand word, each_told operands words) (not_both (reads operand word) (reads_each operands words))

-- what the grammar reads of the words after a first word of this shape
abbrev pub is_read : Shape → List (List ℕ) → Bool
is_read ObjectAndValue words = is_some (object_and_value words)
is_read TxnAndParent words = is_some (txn_and_parent words)
is_read OneTxn words = is_some (one_txn words)
is_read TxnAndObject words = is_some (txn_and_object words)
is_read TxnObjectAndValue words = is_some (txn_object_and_value words)
is_read TxnObjectAndAmount words = is_some (txn_object_and_value words)
is_read TxnsOpsAndSet words = is_some (option_and_then permit_made (txn_taker_ops_and_set words))
is_read TxnsAndSet words = is_some (txns_and_set words)
is_read KindAndTxns words = is_some (kind_and_txns words)

-- as many words as operands, each of which is read
abbrev all_read : List Operand → List (List ℕ) → Bool
all_read operands words = fits operands words && reads_each operands words

some_txn : (word : List ℕ) → is_some (txn_of word) ≡ is_some (number_of word)
unfolding txn_of
some_txn word = some_mapped _ (number_of word)

some_ob : (word : List ℕ) → is_some (ob_of word) ≡ is_some (number_of word)
unfolding ob_of
some_ob word = some_mapped _ (number_of word)

and_true : (a : Bool) → a ≡ (a && true)
and_true true = refl
and_true false = refl

and_assoc : (a b c : Bool) → ((a && b) && c) ≡ (a && (b && c))
and_assoc true b c = refl
and_assoc false b c = refl

read_object : (words : List (List ℕ)) → is_read ObjectAndValue words ≡ all_read (operands_of ObjectAndValue (is_single words) (names_anybody words)) words
unfolding object_and_value operands_of fits
read_object [] = refl
read_object (x ∷ []) = refl
read_object (x ∷ v ∷ []) = some_both (ob_of x) (value_of v) ∙ rw (some_ob x, ← and_true (is_some (value_of v))) refl
read_object (x ∷ v ∷ w ∷ rest) = refl

read_one : (words : List (List ℕ)) → is_read OneTxn words ≡ all_read (operands_of OneTxn (is_single words) (names_anybody words)) words
unfolding one_txn operands_of fits
read_one [] = refl
read_one (t ∷ []) = some_txn t ∙ and_true (is_some (number_of t))
read_one (t ∷ w ∷ rest) = refl

read_pair : (words : List (List ℕ)) → is_read TxnAndObject words ≡ all_read (operands_of TxnAndObject (is_single words) (names_anybody words)) words
unfolding txn_and_object operands_of fits
read_pair [] = refl
read_pair (t ∷ []) = refl
read_pair (t ∷ x ∷ []) = some_both (txn_of t) (ob_of x) ∙ rw (some_txn t, some_ob x, ← and_true (is_some (number_of x))) refl
read_pair (t ∷ x ∷ w ∷ rest) = refl

read_parent : (words : List (List ℕ)) → is_read TxnAndParent words ≡ all_read (operands_of TxnAndParent (is_single words) (names_anybody words)) words
unfolding txn_and_parent operands_of fits is_single
read_parent [] = refl
read_parent (t ∷ []) = some_both {B = Option Txn} (txn_of t) (Some None) ∙ rw (some_txn t) refl
read_parent (t ∷ p ∷ []) = some_both (txn_of t) (option_map Some (txn_of p)) ∙ rw (some_txn t, some_mapped Some (txn_of p), some_txn p, ← and_true (is_some (number_of p))) refl
read_parent (t ∷ p ∷ w ∷ rest) = refl

read_write : (words : List (List ℕ)) → is_read TxnObjectAndValue words ≡ all_read (operands_of TxnObjectAndValue (is_single words) (names_anybody words)) words
unfolding txn_object_and_value operands_of fits
read_write [] = refl
read_write (t ∷ []) = refl
read_write (t ∷ x ∷ []) = refl
read_write (t ∷ x ∷ v ∷ []) = some_all (txn_of t) (ob_of x) (value_of v) ∙ rw (some_txn t, some_ob x, ← and_true (is_some (value_of v))) refl
read_write (t ∷ x ∷ v ∷ w ∷ rest) = refl

read_add : (words : List (List ℕ)) → is_read TxnObjectAndAmount words ≡ all_read (operands_of TxnObjectAndAmount (is_single words) (names_anybody words)) words
unfolding operands_of
read_add words = read_write words

-- a permit to a transaction, and one to anybody
named : (t u : Option Txn) (ops : Option OpSet) (set : Option ObSet) → is_some (option_and_then permit_made (both (both t (option_map Some u)) (both ops set))) ≡ (is_some t && (is_some u && (is_some ops && (is_some set && true))))
unfolding both permit_step
named None u ops set = refl
named (Some t) None ops set = refl
named (Some t) (Some u) None set = refl
named (Some t) (Some u) (Some ops) None = refl
named (Some t) (Some u) (Some ops) (Some set) = refl

-- whether a set is a list of objects
abbrev is_listed : Option ObSet → Bool
is_listed None = false
is_listed (Some All) = false
is_listed (Some (Listed objects)) = true

list_read : (word : List ℕ) → is_listed (set_of word) ≡ (not (bytes_eq word (codes "all")) && is_some (set_of word))
unfolding set_of listed
list_read word = go (bytes_eq word (codes "all")) where
  made : (objects : Option (List Ob)) → is_listed (option_and_then listed objects) ≡ is_some (option_and_then listed objects)
  made None = refl
  made (Some objects) = test (is_list objects) where
    test : (b : Bool) → is_listed (cond b (Some (Listed (rising objects))) None) ≡ is_some (cond {A = Option ObSet} b (Some (Listed (rising objects))) None)
    test true = refl
    test false = refl

  go : (all : Bool) → is_listed (cond all (Some All) (option_and_then listed (gathered [] (parts 44 word)))) ≡ (not all && is_some (cond {A = Option ObSet} all (Some All) (option_and_then listed (gathered [] (parts 44 word)))))
  go true = refl
  go false = made (gathered [] (parts 44 word))

anybody : (t : Option Txn) (ops : Option OpSet) (set : Option ObSet) → is_some (option_and_then permit_made (both (both t (Some None)) (both ops set))) ≡ (is_some t && (true && (is_some ops && (is_listed set && true))))
unfolding both permit_step
anybody None ops set = refl
anybody (Some t) None set = refl
anybody (Some t) (Some ops) None = refl
anybody (Some t) (Some ops) (Some All) = refl
anybody (Some t) (Some ops) (Some (Listed objects)) = refl

read_permit : (words : List (List ℕ)) → is_read TxnsOpsAndSet words ≡ all_read (operands_of TxnsOpsAndSet (is_single words) (names_anybody words)) words
unfolding txn_taker_ops_and_set operands_of fits names_anybody taker_of
read_permit [] = refl
read_permit (t ∷ []) = refl
read_permit (t ∷ u ∷ []) = refl
read_permit (t ∷ u ∷ ops ∷ []) = refl
read_permit (t ∷ u ∷ ops ∷ set ∷ []) = go (bytes_eq u (codes "any")) where
  go : (any : Bool) → is_some (option_and_then permit_made (both (both (txn_of t) (cond any (Some None) (option_map Some (txn_of u)))) (both (ops_of ops) (set_of set))))
      ≡ (is_some (number_of t) && ((any || is_some (number_of u)) && (is_some (ops_of ops) && (reads (cond any Operand'.List Operand'.Set) set && true))))
  go true = anybody (txn_of t) (ops_of ops) (set_of set) ∙ rw (some_txn t, list_read set) refl
  go false = named (txn_of t) (txn_of u) (ops_of ops) (set_of set) ∙ rw (some_txn t, some_txn u) refl
read_permit (t ∷ u ∷ ops ∷ set ∷ w ∷ rest) = refl

read_delegate : (words : List (List ℕ)) → is_read TxnsAndSet words ≡ all_read (operands_of TxnsAndSet (is_single words) (names_anybody words)) words
unfolding txns_and_set operands_of fits
read_delegate [] = refl
read_delegate (t ∷ []) = refl
read_delegate (t ∷ u ∷ []) = refl
read_delegate (t ∷ u ∷ set ∷ []) =
    some_both (both (txn_of t) (txn_of u)) (set_of set)
    ∙ rw (some_both (txn_of t) (txn_of u), some_txn t, some_txn u, ← and_true (is_some (set_of set))) (and_assoc (is_some (number_of t)) (is_some (number_of u)) _)
read_delegate (t ∷ u ∷ set ∷ w ∷ rest) = refl

read_depend : (words : List (List ℕ)) → is_read KindAndTxns words ≡ all_read (operands_of KindAndTxns (is_single words) (names_anybody words)) words
unfolding kind_and_txns operands_of fits
read_depend [] = refl
read_depend (kind ∷ []) = refl
read_depend (kind ∷ a ∷ []) = refl
read_depend (kind ∷ a ∷ b ∷ []) =
    some_both (kind_of kind) (both (txn_of a) (txn_of b))
    ∙ rw (some_both (txn_of a) (txn_of b), some_txn a, some_txn b, ← and_true (is_some (number_of b))) refl
read_depend (kind ∷ a ∷ b ∷ w ∷ rest) = refl

read_words : (shape : Shape) (words : List (List ℕ)) → is_read shape words ≡ all_read (operands_of shape (is_single words) (names_anybody words)) words
read_words ObjectAndValue words = read_object words
read_words TxnAndParent words = read_parent words
read_words OneTxn words = read_one words
read_words TxnAndObject words = read_pair words
read_words TxnObjectAndValue words = read_write words
read_words TxnObjectAndAmount words = read_add words
read_words TxnsOpsAndSet words = read_permit words
read_words TxnsAndSet words = read_delegate words
read_words KindAndTxns words = read_depend words

told_unless : (b c : Bool) (a : Option Found) (other : Found) → is_some a ≡ not c → is_some (cond b a (Some other)) ≡ not (b && c)
told_unless true c a other e = e
told_unless false c a other e = refl

-- something is wrong with the words after a first word of this shape exactly if they are not read
pub shape_told : (first : List ℕ) (shape : Shape) (words : List (List ℕ)) → is_some (shape_mistake first shape words) ≡ not (is_read shape words)
unfolding shape_mistake
shape_told first shape words =
    let operands : List Operand = operands_of shape (is_single words) (names_anybody words) in
    told_unless (fits operands words) (reads_each operands words) (first_mistake operands words) _ (each_told operands words) ∙ ap not (sym (read_words shape words))
