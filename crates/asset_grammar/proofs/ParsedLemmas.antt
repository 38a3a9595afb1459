-- What a line says can be said: its numbers and values are in range.
use Rattle.std.proofs.Common.{◌≡◌, ℕ, zero, suc, ◌-◌, ◌<◌, ◌≤◌, ◌^◌, ◌==◌, ◌&&◌, Bool, true, false, not, cond, List, [], ◌∷◌, ◌++◌, length, refl, ap, arith}
use Rattle.std.specs.Prelude.{ℤ, pos, negsuc, codes, None, Some, Option, IfSome, option_map, option_and_then, nat_lt, nat_le, ◌-ℤ◌}
use Rattle.std.specs.Str.Parse.{digits_value}
use Rattle.std.specs.List.{list_any}
use Rattle.std.specs.Str.{bytes_eq}
use Rattle.std.proofs.lemmas.Bool.{lt-ltb, ltb-true, leb-true, and_parts}
use Rattle.std.proofs.lemmas.List.Elements.{All-append, All-cons, All-nil}
use Rattle.asset_names.specs.declared.names.Ob.{Ob}
use Rattle.asset_names.specs.declared.names.Txn.{Txn}
use Rattle.asset_names.specs.declared.sets.ObSet.{ObSet}
use Rattle.asset_names.specs.declared.sets.ObSet.TheVariants.{All, Listed}
use Rattle.asset_names.specs.declared.steps.Kind.{Kind}
use Rattle.asset_names.specs.declared.steps.Step.{Step}
use Rattle.asset_names.specs.OpSets.{OpSet}
use Rattle.asset_names.specs.Sets.{numbers, twice, rising}
use Rattle.asset_grammar.specs.declared.keywords.Keyword.{Keyword}
use Rattle.asset_grammar.specs.declared.keywords.Keyword.TheVariants.{Initiate, Begin, Read, Write, Add, Complete, Permit, Delegate, Depend, Commit, Abort, Wait}
use Rattle.asset_grammar.specs.declared.grammar.Command.{Command}
use Rattle.asset_grammar.specs.declared.grammar.Command.TheVariants.{Ask, Object}
use Rattle.asset_grammar.specs.declared.grammar.Line.{Line}
use Rattle.asset_grammar.specs.declared.grammar.Line.TheVariants as Line'
use Rattle.asset_grammar.specs.DependOperands.{kind_of, kind_and_txns}
use Rattle.asset_grammar.specs.PermitOperands.{permit_step, taker_of, txn_taker_ops_and_set, txns_and_set}
use Rattle.asset_grammar.specs.Operands.{txn_of, ob_of, both, all_three, one_txn, txn_and_parent, txn_and_object, object_and_value, txn_object_and_value}
use Rattle.asset_grammar.specs.Grammar.{step_by, object_command, step_command, command_from, command_of, is_blank, line_by, line_of}
use Rattle.asset_grammar.specs.Keywords.{keyword_of}
use Rattle.asset_grammar.specs.Numbers.{number_of, positive_value, negative_value, value_of}
use Rattle.asset_grammar.specs.Sets.{ops_of, set_of, gathered, one_more_object, is_list, listed}
use Rattle.asset_grammar.specs.Words.{words, parts}
use Rattle.asset_grammar.specs.Writable.{AreObjects, HasOp, IsName, IsObject, IsSet, IsValue, IsWritable, IsWritableObject}
use Rattle.asset_grammar.proofs.RisingLemmas.{length-rising, rising_increases, small_rising}

-- what is read of one or of several words has a property if its parts have theirs
if_mapped : {A B : Type 0} (P : B → Type 0) (f : A → B) (o : Option A) → IfSome o (λ x. P (f x)) → IfSome (option_map f o) P
if_mapped P f None h = tt
if_mapped P f (Some x) h = h

if_both : {A B : Type 0} (P : A → Type 0) (Q : B → Type 0) (a : Option A) (b : Option B) → IfSome a P → IfSome b Q → IfSome (both a b) (λ p. P p.0 × Q p.1)
unfolding both
if_both P Q None b h g = tt
if_both P Q (Some x) None h g = tt
if_both P Q (Some x) (Some y) h g = (h, g)

if_three : {A B C : Type 0} (P : A → Type 0) (Q : B → Type 0) (R : C → Type 0) (a : Option A) (b : Option B) (c : Option C) → IfSome a P → IfSome b Q → IfSome c R → IfSome (all_three a b c) (λ p. P p.0 × Q p.1 × R p.2)
unfolding all_three
if_three P Q R None b c h g k = tt
if_three P Q R (Some x) None c h g k = tt
if_three P Q R (Some x) (Some y) None h g k = tt
if_three P Q R (Some x) (Some y) (Some z) h g k = (h, g, k)

if_then : {A B : Type 0} (P : A → Type 0) (Q : B → Type 0) (f : A → Option B) (o : Option A) → IfSome o P → ((x : A) → P x → IfSome (f x) Q) → IfSome (option_and_then f o) Q
if_then P Q f None h g = tt
if_then P Q f (Some x) h g = g x h

-- what a test lets through
if_tested : {A : Type 0} (P : A → Type 0) (test : Bool) (x : A) → (test ≡ true → P x) → IfSome (cond test (Some x) None) P
if_tested P true x h = h refl
if_tested P false x h = tt

-- a number
number_parsed : (word : List ℕ) → IfSome (number_of word) (λ n. n < 2 ^ 64)
unfolding number_of
number_parsed word = if_tested (λ n. n < 2 ^ 64) _ _ (λ h. ltb-true (digits_value 10 word) (2 ^ 64) (and_parts _ _ h).1)

txn_parsed : (word : List ℕ) → IfSome (txn_of word) IsName
unfolding txn_of
txn_parsed word = if_mapped IsName _ (number_of word) (number_parsed word)

ob_parsed : (word : List ℕ) → IfSome (ob_of word) IsObject
unfolding ob_of
ob_parsed word = if_mapped IsObject _ (number_of word) (number_parsed word)

-- a value
mag-negated : (n : ℕ) → 0 < n → n ≤ 2 ^ 63 → IsValue (pos 0 -ℤ pos n)
mag-negated zero some small = absurd (omega (arith, some))
mag-negated (suc n) some small =
    let less : suc n - 1 ≡ n = omega arith in
    let above : nat_lt 0 (suc n) ≡ true = lt-ltb 0 (suc n) (omega arith) in
    let negated : pos 0 -ℤ pos (suc n) ≡ negsuc n = rw above (ap (λ k. negsuc k) less) in
    rw negated (omega (arith, small))

positive_parsed : (n : ℕ) → IfSome (positive_value n) IsValue
unfolding positive_value
positive_parsed n = if_tested IsValue (nat_lt n (2 ^ 63)) (pos n) (λ h. ltb-true n (2 ^ 63) h)

negative_parsed : (n : ℕ) → IfSome (negative_value n) IsValue
unfolding negative_value
negative_parsed n = if_tested IsValue (nat_lt 0 n && nat_le n (2 ^ 63)) (pos 0 -ℤ pos n) (λ h.
    let parts = and_parts (nat_lt 0 n) (nat_le n (2 ^ 63)) h in
    mag-negated n (ltb-true 0 n parts.0) (leb-true n (2 ^ 63) parts.1))

value_parsed : (word : List ℕ) → IfSome (value_of word) IsValue
unfolding value_of
value_parsed [] = tt
value_parsed (first ∷ rest) = go (first == 45) where
  go : (b : Bool) → IfSome (cond b (option_and_then negative_value (number_of rest)) (option_and_then positive_value (number_of (first ∷ rest)))) IsValue
  go true = if_then _ IsValue negative_value (number_of rest) (number_parsed rest) (λ n h. negative_parsed n)
  go false = if_then _ IsValue positive_value (number_of (first ∷ rest)) (number_parsed (first ∷ rest)) (λ n h. positive_parsed n)

-- operations
ops_parsed : (word : List ℕ) → IfSome (ops_of word) HasOp
unfolding ops_of
ops_parsed word =
    either (bytes_eq word (codes "r")) _ _ refl
    (either (bytes_eq word (codes "w")) _ _ refl
    (either (bytes_eq word (codes "rw")) _ _ refl
    (either (bytes_eq word (codes "a")) _ _ refl
    (either (bytes_eq word (codes "ra")) _ _ refl
    (either (bytes_eq word (codes "wa")) _ _ refl
    (either (bytes_eq word (codes "rwa")) _ _ refl tt))))))
  where
    either : (test : Bool) (ops : OpSet) (rest : Option OpSet) → HasOp ops → IfSome rest HasOp → IfSome (cond test (Some ops) rest) HasOp
    either true ops rest here later = here
    either false ops rest here later = later

-- a set
one_more_parsed : (objects : List Ob) (x : Option Ob) → AreObjects objects → IfSome x IsObject → IfSome (one_more_object objects x) AreObjects
unfolding one_more_object
one_more_parsed objects x small h = go (nat_lt (length objects) 16) x h where
  go : (room : Bool) (x : Option Ob) → IfSome x IsObject → IfSome (cond room (option_map (λ y. objects ++ y ∷ []) x) None) AreObjects
  go true None h = tt
  go true (Some y) h = All-append IsObject objects (y ∷ []) small (All-cons IsObject y [] h (All-nil IsObject))
  go false x h = tt

gathered_parsed : (objects : List Ob) (parts : List (List ℕ)) → AreObjects objects → IfSome (gathered objects parts) AreObjects
unfolding gathered
gathered_parsed objects [] small = small
gathered_parsed objects (part ∷ rest) small =
    if_then AreObjects AreObjects (λ more. gathered more rest) (one_more_object objects (ob_of part)) (one_more_parsed objects (ob_of part) small (ob_parsed part)) (λ more h. gathered_parsed more rest h)

listed_parsed : (objects : List Ob) → AreObjects objects → IfSome (listed objects) IsSet
unfolding listed is_list
listed_parsed objects small = if_tested IsSet (is_list objects) (Listed (rising objects)) (λ h.
    let first = and_parts (nat_lt 0 (length objects) && nat_le (length objects) 16) (not (list_any (λ (x : Ob). twice (numbers objects) x.0) objects)) h in
    let counts = and_parts (nat_lt 0 (length objects)) (nat_le (length objects) 16) first.0 in (
      omega (arith, ltb-true 0 (length objects) counts.0, length-rising objects),
      omega (arith, leb-true (length objects) 16 counts.1, length-rising objects),
      rising_increases objects (not-false' (list_any (λ (x : Ob). twice (numbers objects) x.0) objects) first.1),
      small_rising objects small,
    )) where
      not-false' : (b : Bool) → not b ≡ true → b ≡ false
      not-false' true e = absurd (cc)
      not-false' false e = refl

set_parsed : (word : List ℕ) → IfSome (set_of word) IsSet
unfolding set_of
set_parsed word = go (bytes_eq word (codes "all")) where
  go : (b : Bool) → IfSome (cond b (Some All) (option_and_then listed (gathered [] (parts 44 word)))) IsSet
  go true = tt
  go false = if_then AreObjects IsSet listed (gathered [] (parts 44 word)) (gathered_parsed [] (parts 44 word) (All-nil IsObject)) listed_parsed

-- operands
any_kind : (kind : Option Kind) → IfSome kind (λ k. Unit {0})
any_kind None = tt
any_kind (Some kind) = tt

one_parsed : (operands : List (List ℕ)) → IfSome (one_txn operands) IsName
unfolding one_txn
one_parsed [] = tt
one_parsed (t ∷ []) = txn_parsed t
one_parsed (t ∷ u ∷ rest) = tt

parent_parsed : (operands : List (List ℕ)) → IfSome (txn_and_parent operands) (λ p. IsName p.0 × IfSome p.1 IsName)
unfolding txn_and_parent
parent_parsed [] = tt
parent_parsed (t ∷ []) = if_both IsName (λ p. IfSome p IsName) (txn_of t) (Some None) (txn_parsed t) tt
parent_parsed (t ∷ u ∷ []) = if_both IsName (λ p. IfSome p IsName) (txn_of t) (option_map Some (txn_of u)) (txn_parsed t) (if_mapped (λ p. IfSome p IsName) Some (txn_of u) (txn_parsed u))
parent_parsed (t ∷ u ∷ v ∷ rest) = tt

object_operand_parsed : (operands : List (List ℕ)) → IfSome (txn_and_object operands) (λ p. IsName p.0 × IsObject p.1)
unfolding txn_and_object
object_operand_parsed [] = tt
object_operand_parsed (t ∷ []) = tt
object_operand_parsed (t ∷ x ∷ []) = if_both IsName IsObject (txn_of t) (ob_of x) (txn_parsed t) (ob_parsed x)
object_operand_parsed (t ∷ x ∷ v ∷ rest) = tt

-- of a write, and of an add
write_parsed : (operands : List (List ℕ)) → IfSome (txn_object_and_value operands) (λ p. IsName p.0 × IsObject p.1 × IsValue p.2)
unfolding txn_object_and_value
write_parsed [] = tt
write_parsed (t ∷ []) = tt
write_parsed (t ∷ x ∷ []) = tt
write_parsed (t ∷ x ∷ v ∷ []) = if_three IsName IsObject IsValue (txn_of t) (ob_of x) (value_of v) (txn_parsed t) (ob_parsed x) (value_parsed v)
write_parsed (t ∷ x ∷ v ∷ u ∷ rest) = tt

pair_parsed : (operands : List (List ℕ)) → IfSome (object_and_value operands) (λ p. IsObject p.0 × IsValue p.1)
unfolding object_and_value
pair_parsed [] = tt
pair_parsed (x ∷ []) = tt
pair_parsed (x ∷ v ∷ []) = if_both IsObject IsValue (ob_of x) (value_of v) (ob_parsed x) (value_parsed v)
pair_parsed (x ∷ v ∷ u ∷ rest) = tt

taker_parsed : (word : List ℕ) → IfSome (taker_of word) (λ t. IfSome t IsName)
unfolding taker_of
taker_parsed word = go (bytes_eq word (codes "any")) where
  go : (any : Bool) → IfSome (cond any (Some None) (option_map Some (txn_of word))) (λ t. IfSome t IsName)
  go true = tt
  go false = if_mapped (λ t. IfSome t IsName) Some (txn_of word) (txn_parsed word)

permit_parsed : (operands : List (List ℕ)) → IfSome (txn_taker_ops_and_set operands) (λ p. (IsName p.0.0 × IfSome p.0.1 IsName) × (HasOp p.1.0 × IsSet p.1.1))
unfolding txn_taker_ops_and_set
permit_parsed [] = tt
permit_parsed (a ∷ []) = tt
permit_parsed (a ∷ b ∷ []) = tt
permit_parsed (a ∷ b ∷ c ∷ []) = tt
permit_parsed (a ∷ b ∷ c ∷ d ∷ []) =
    if_both (λ p. IsName p.0 × IfSome p.1 IsName) (λ p. HasOp p.0 × IsSet p.1) (both (txn_of a) (taker_of b)) (both (ops_of c) (set_of d))
    (if_both IsName (λ t. IfSome t IsName) (txn_of a) (taker_of b) (txn_parsed a) (taker_parsed b)) (if_both HasOp IsSet (ops_of c) (set_of d) (ops_parsed c) (set_parsed d))
permit_parsed (a ∷ b ∷ c ∷ d ∷ e ∷ rest) = tt

-- a permit to anybody has a list
permit_made : (p : (Txn × Option Txn) × (OpSet × ObSet)) → (IsName p.0.0 × IfSome p.0.1 IsName) × (HasOp p.1.0 × IsSet p.1.1) → IfSome (permit_step p.0.0 p.0.1 p.1.0 p.1.1) IsWritable
unfolding permit_step IsWritable
permit_made ((giver, None), (ops, All)) h = tt
permit_made ((giver, None), (ops, Listed objects)) h = (h.0.0, h.1.1, h.1.0)
permit_made ((giver, Some taker), (ops, obs)) h = (h.0.0, h.0.1, h.1.1, h.1.0)

delegate_parsed : (operands : List (List ℕ)) → IfSome (txns_and_set operands) (λ p. (IsName p.0.0 × IsName p.0.1) × IsSet p.1)
unfolding txns_and_set
delegate_parsed [] = tt
delegate_parsed (a ∷ []) = tt
delegate_parsed (a ∷ b ∷ []) = tt
delegate_parsed (a ∷ b ∷ c ∷ []) = if_both (λ p. IsName p.0 × IsName p.1) IsSet (both (txn_of a) (txn_of b)) (set_of c) (if_both IsName IsName (txn_of a) (txn_of b) (txn_parsed a) (txn_parsed b)) (set_parsed c)
delegate_parsed (a ∷ b ∷ c ∷ d ∷ rest) = tt

depend_parsed : (operands : List (List ℕ)) → IfSome (kind_and_txns operands) (λ p. Unit {0} × (IsName p.1.0 × IsName p.1.1))
unfolding kind_and_txns
depend_parsed [] = tt
depend_parsed (k ∷ []) = tt
depend_parsed (k ∷ a ∷ []) = tt
depend_parsed (k ∷ a ∷ b ∷ []) = if_both (λ p. Unit {0}) (λ p. IsName p.0 × IsName p.1) (kind_of k) (both (txn_of a) (txn_of b)) (any_kind (kind_of k)) (if_both IsName IsName (txn_of a) (txn_of b) (txn_parsed a) (txn_parsed b))
depend_parsed (k ∷ a ∷ b ∷ c ∷ rest) = tt

-- what follows of what is read
if_weaker : {A : Type 0} (P Q : A → Type 0) (o : Option A) → IfSome o P → ((x : A) → P x → Q x) → IfSome o Q
if_weaker P Q None h f = tt
if_weaker P Q (Some x) h f = f x h

step_parsed : (keyword : Keyword) (operands : List (List ℕ)) → IfSome (step_by keyword operands) IsWritable
unfolding step_by IsWritable
step_parsed Initiate operands = if_mapped IsWritable _ (txn_and_parent operands) (parent_parsed operands)
step_parsed Begin operands = if_mapped IsWritable _ (one_txn operands) (one_parsed operands)
step_parsed Read operands = if_mapped IsWritable _ (txn_and_object operands) (object_operand_parsed operands)
step_parsed Write operands = if_mapped IsWritable _ (txn_object_and_value operands) (write_parsed operands)
step_parsed Add operands = if_mapped IsWritable _ (txn_object_and_value operands) (write_parsed operands)
step_parsed Complete operands = if_mapped IsWritable _ (one_txn operands) (one_parsed operands)
step_parsed Permit operands = if_then _ IsWritable _ (txn_taker_ops_and_set operands) (permit_parsed operands) permit_made
step_parsed Delegate operands = if_mapped IsWritable _ (txns_and_set operands) (if_weaker _ _ (txns_and_set operands) (delegate_parsed operands) (λ p h. (h.0.0, h.0.1, h.1)))
step_parsed Depend operands = if_mapped IsWritable _ (kind_and_txns operands) (if_weaker _ _ (kind_and_txns operands) (depend_parsed operands) (λ p h. h.1))
step_parsed Commit operands = if_mapped IsWritable _ (one_txn operands) (one_parsed operands)
step_parsed Abort operands = if_mapped IsWritable _ (one_txn operands) (one_parsed operands)
step_parsed Wait operands = if_mapped IsWritable _ (one_txn operands) (one_parsed operands)

-- what a line asks can be said
abbrev CanSay : Command → Type 0
CanSay (Ask step) = IsWritable step
CanSay (Object given) = IsWritableObject given

step_command_parsed : (word : List ℕ) (operands : List (List ℕ)) → IfSome (step_command word operands) CanSay
unfolding step_command
step_command_parsed word operands = go (keyword_of word) where
  go : (keyword : Option Keyword) → IfSome (option_and_then (λ k. option_map Ask (step_by k operands)) keyword) CanSay
  go None = tt
  go (Some keyword) = if_mapped CanSay Ask (step_by keyword operands) (step_parsed keyword operands)

object_command_parsed : (operands : List (List ℕ)) → IfSome (object_command operands) CanSay
unfolding object_command IsWritableObject
object_command_parsed operands = if_mapped CanSay Object (object_and_value operands) (pair_parsed operands)

command_parsed : (words : List (List ℕ)) → IfSome (command_from words) CanSay
unfolding command_from
command_parsed [] = tt
command_parsed (word ∷ operands) = go (bytes_eq word (codes "object")) where
  go : (b : Bool) → IfSome (cond b (object_command operands) (step_command word operands)) CanSay
  go true = object_command_parsed operands
  go false = step_command_parsed word operands

-- of a line
abbrev LineCanSay : Line → Type 0
LineCanSay (Line'.Command command) = CanSay command
LineCanSay line = Unit {0}

line_parsed : (line : List ℕ) → LineCanSay (line_of line)
unfolding line_of line_by command_of
line_parsed line = go (nat_lt 4096 (length line)) (is_blank line) (command_from (words line)) (command_parsed (words line)) where
  go : (long blank : Bool) (command : Option Command) → IfSome command CanSay → LineCanSay (cond long Line'.Bad (cond blank Line'.Blank (line_by command)))
  go true blank command h = tt
  go false true command h = tt
  go false false None h = tt
  go false false (Some command) h = h

pub asked_writable : (line : List ℕ) (step : Step) → line_of line ≡ Line'.Command (Ask step) → IsWritable step
asked_writable line step e = rw e at (line_parsed line)

pub object_writable : (line : List ℕ) (given : Ob × ℤ) → line_of line ≡ Line'.Command (Object given) → IsWritableObject given
object_writable line given e = rw e at (line_parsed line)
