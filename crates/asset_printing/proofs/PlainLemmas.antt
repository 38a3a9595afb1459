-- Printed lines are short, and have no line feed.
use Rattle.std.proofs.Common.{◌≡◌, ℕ, ◌*◌, ◌<◌, ◌≤◌, ◌^◌, ◌==◌, Bool, true, false, not, List, [], ◌∷◌, length, refl, arith}
use Rattle.std.specs.Prelude.{ℤ, pos, negsuc, suc, None, Some, Option, IfSome, codes, nat_le}
use Rattle.std.specs.Int.Signed.{mag}
use Rattle.std.specs.Fmt.{decimal, signed_decimal}
use Rattle.std.specs.List.{list_all, join_with_byte}
use Rattle.std.proofs.lemmas.Bool.{leb-true}
use Rattle.std.proofs.lemmas.Fmt.{length-decimal-le}
use Rattle.std.proofs.lemmas.List.{length-append}
use Rattle.std.proofs.lemmas.List.Elements.{All-append, All-cons}
use Rattle.asset_names.specs.declared.names.Txn.{Txn}
use Rattle.asset_names.specs.declared.names.Ob.{Ob}
use Rattle.asset_names.specs.declared.sets.ObSet.{ObSet}
use Rattle.asset_names.specs.declared.sets.ObSet.TheVariants.{All, Listed}
use Rattle.asset_names.specs.declared.steps.Kind.{Kind}
use Rattle.asset_names.specs.declared.steps.Kind.TheVariants.{Cd, Ad, Gc}
use Rattle.asset_names.specs.declared.steps.Step.{Step}
use Rattle.asset_names.specs.declared.steps.Step.TheVariants.{Initiate, Begin, Read, Write, Add, Complete, Permit, PermitAny, Delegate, Depend, Commit, Abort, WaitFor}
use Rattle.asset_names.specs.OpSets.{OpSet}
use Rattle.asset_grammar.specs.Lines.{Lacks}
use Rattle.asset_printing.specs.Printed.{AreNumbers, kind_text, list_text, more_text, object_text, ops_text, parent_words, set_text, step_text, step_words}
use Rattle.asset_grammar.specs.Writable.{IsName, IsSet, IsWritable, IsWritableObject}
use Rattle.asset_printing.proofs.SetLemmas.{head_small, tail_small}
use Rattle.asset_printing.proofs.WordLemmas.{number_lacks, text_lacks}

-- a word of at most 400 bytes without a line feed
pub record IsPlain (word : List ℕ) : Type 0 where
  pub short : length word ≤ 400
  pub one : Lacks 10 word

-- each word is one
abbrev pub ArePlain : List (List ℕ) → Type 0
ArePlain [] = Unit {0}
ArePlain (word ∷ rest) = IsPlain word × ArePlain rest

plain_text : (word : List ℕ) → nat_le (length word) 400 ≡ true → list_all (λ b. not (b == 10)) word ≡ true → IsPlain word
plain_text word short one = record { short = leb-true _ _ short; one = text_lacks 10 word one }

-- a number has at most 20 digits
length-number : (n : ℕ) → n < 2 ^ 64 → length (decimal n) ≤ 20
length-number n small = length-decimal-le 20 n (omega arith) (omega arith) small

plain_number : (n : ℕ) → n < 2 ^ 64 → IsPlain (decimal n)
plain_number n small = record { short = omega (arith, length-number n small); one = number_lacks 10 n refl small }

plain_value : (z : ℤ) → mag z < 2 ^ 63 → IsPlain (signed_decimal z)
unfolding Lacks
plain_value (pos n) small = plain_number n (omega arith)
plain_value (negsuc n) small = record {
  short = omega (arith, length-number (suc n) (omega arith));
  one = All-cons (λ x. (x == 10) ≡ false) 45 (decimal (suc n)) refl (number_lacks 10 (suc n) refl (omega arith));
}

-- words that are joined by spaces
length-joined : (words : List (List ℕ)) → ArePlain words → length (join_with_byte 32 words) ≤ 401 * length words
length-joined [] plain = omega arith
length-joined (word ∷ []) plain = omega (arith, plain.0.short)
length-joined (word ∷ next ∷ rest) plain =
    omega (arith, plain.0.short, length-append word (32 ∷ join_with_byte 32 (next ∷ rest)), length-joined (next ∷ rest) plain.1)

joined_lacks : (words : List (List ℕ)) → ArePlain words → Lacks 10 (join_with_byte 32 words)
unfolding Lacks
joined_lacks [] plain = λ k d below. absurd (omega (arith, below))
joined_lacks (word ∷ []) plain = plain.0.one
joined_lacks (word ∷ next ∷ rest) plain =
    All-append (λ b. (b == 10) ≡ false) word (32 ∷ join_with_byte 32 (next ∷ rest)) plain.0.one (All-cons (λ b. (b == 10) ≡ false) 32 (join_with_byte 32 (next ∷ rest)) refl (joined_lacks (next ∷ rest) plain.1))

-- a list of at most 16 objects
length-more : (objects : List Ob) → AreNumbers objects → length (more_text objects) ≤ 21 * length objects
unfolding more_text
length-more [] small = omega arith
length-more (x ∷ objects) small =
    omega (arith, length-append (44 ∷ decimal x.0) (more_text objects), length-number x.0 (head_small x objects small), length-more objects (tail_small x objects small))

more_lacks : (objects : List Ob) → AreNumbers objects → Lacks 10 (more_text objects)
unfolding Lacks more_text
more_lacks [] small = λ k d below. absurd (omega (arith, below))
more_lacks (x ∷ objects) small =
    All-append (λ b. (b == 10) ≡ false) (44 ∷ decimal x.0) (more_text objects) (All-cons (λ b. (b == 10) ≡ false) 44 (decimal x.0) refl (number_lacks 10 x.0 refl (head_small x objects small))) (more_lacks objects (tail_small x objects small))

plain_list : (objects : List Ob) → length objects ≤ 16 → AreNumbers objects → IsPlain (list_text objects)
unfolding Lacks list_text
plain_list [] few small = record { short = omega arith; one = λ k d below. absurd (omega (arith, below)) }
plain_list (x ∷ objects) few small = record {
  short = omega (arith, length-append (decimal x.0) (more_text objects), length-number x.0 (head_small x objects small), length-more objects (tail_small x objects small));
  one = All-append (λ b. (b == 10) ≡ false) (decimal x.0) (more_text objects) (number_lacks 10 x.0 refl (head_small x objects small)) (more_lacks objects (tail_small x objects small));
}

plain_set : (obs : ObSet) → IsSet obs → IsPlain (set_text obs)
unfolding set_text AreNumbers
plain_set All set = plain_text (codes "all") refl refl
plain_set (Listed objects) set = plain_list objects set.1 set.3

plain_ops : (ops : OpSet) → IsPlain (ops_text ops)
unfolding ops_text
plain_ops ops = go ops.read ops.write ops.add refl refl refl where
  go : (read write add : Bool) → ops.read ≡ read → ops.write ≡ write → ops.add ≡ add → IsPlain (ops_text ops)
  go true true true r w a = rw (r, w, a) (plain_text (codes "rwa") refl refl)
  go true true false r w a = rw (r, w, a) (plain_text (codes "rw") refl refl)
  go true false true r w a = rw (r, w, a) (plain_text (codes "ra") refl refl)
  go true false false r w a = rw (r, w, a) (plain_text (codes "r") refl refl)
  go false true true r w a = rw (r, w, a) (plain_text (codes "wa") refl refl)
  go false true false r w a = rw (r, w, a) (plain_text (codes "w") refl refl)
  go false false true r w a = rw (r, w, a) (plain_text (codes "a") refl refl)
  go false false false r w a = rw (r, w, a) (plain_text (codes "") refl refl)

plain_kind : (kind : Kind) → IsPlain (kind_text kind)
unfolding kind_text
plain_kind Cd = plain_text (codes "cd") refl refl
plain_kind Ad = plain_text (codes "ad") refl refl
plain_kind Gc = plain_text (codes "gc") refl refl

plain_parent : (parent : Option Txn) → IfSome parent IsName → ArePlain (parent_words parent)
unfolding parent_words
plain_parent None small = tt
plain_parent (Some parent) small = (plain_number parent.0 small, tt)

-- the words of a step
plain_words : (step : Step) → IsWritable step → ArePlain (step_words step)
unfolding step_words IsWritable
plain_words (Initiate t parent) h = (plain_text (codes "initiate") refl refl, (plain_number t.0 h.0, plain_parent parent h.1))
plain_words (Begin t) h = (plain_text (codes "begin") refl refl, (plain_number t.0 h, tt))
plain_words (Read t x) h = (plain_text (codes "read") refl refl, (plain_number t.0 h.0, (plain_number x.0 h.1, tt)))
plain_words (Write t x v) h = (plain_text (codes "write") refl refl, (plain_number t.0 h.0, (plain_number x.0 h.1, (plain_value v h.2, tt))))
plain_words (Add t x d) h = (plain_text (codes "add") refl refl, (plain_number t.0 h.0, (plain_number x.0 h.1, (plain_value d h.2, tt))))
plain_words (Complete t) h = (plain_text (codes "complete") refl refl, (plain_number t.0 h, tt))
plain_words (Permit giver taker obs ops) h = (plain_text (codes "permit") refl refl, (plain_number giver.0 h.0, (plain_number taker.0 h.1, (plain_ops ops, (plain_set obs h.2, tt)))))
plain_words (PermitAny giver obs ops) h = (plain_text (codes "permit") refl refl, (plain_number giver.0 h.0, (plain_text (codes "any") refl refl, (plain_ops ops, (plain_set (Listed obs) h.1, tt)))))
plain_words (Delegate giver taker obs) h = (plain_text (codes "delegate") refl refl, (plain_number giver.0 h.0, (plain_number taker.0 h.1, (plain_set obs h.2, tt))))
plain_words (Depend kind a b) h = (plain_text (codes "depend") refl refl, (plain_kind kind, (plain_number a.0 h.0, (plain_number b.0 h.1, tt))))
plain_words (Commit t) h = (plain_text (codes "commit") refl refl, (plain_number t.0 h, tt))
plain_words (Abort t) h = (plain_text (codes "abort") refl refl, (plain_number t.0 h, tt))
plain_words (WaitFor t) h = (plain_text (codes "wait") refl refl, (plain_number t.0 h, tt))

-- a step has at most five words
few_words : (step : Step) → length (step_words step) ≤ 5
unfolding step_words parent_words
few_words (Initiate t None) = omega arith
few_words (Initiate t (Some parent)) = omega arith
few_words (Begin t) = omega arith
few_words (Read t x) = omega arith
few_words (Write t x v) = omega arith
few_words (Add t x d) = omega arith
few_words (Complete t) = omega arith
few_words (Permit giver taker obs ops) = omega arith
few_words (PermitAny giver obs ops) = omega arith
few_words (Delegate giver taker obs) = omega arith
few_words (Depend kind a b) = omega arith
few_words (Commit t) = omega arith
few_words (Abort t) = omega arith
few_words (WaitFor t) = omega arith

-- so the line of a step is one that a script can have
pub step_short : (step : Step) → IsWritable step → length (step_text step) ≤ 4096
unfolding step_text
step_short step h = omega (arith, few_words step, length-joined (step_words step) (plain_words step h))

pub step_one_line : (step : Step) → IsWritable step → Lacks 10 (step_text step)
unfolding step_text
step_one_line step h = joined_lacks (step_words step) (plain_words step h)

-- and so the line of an object
object_words : (given : Ob × ℤ) → IsWritableObject given → ArePlain (codes "object" ∷ decimal given.0.0 ∷ signed_decimal given.1 ∷ [])
unfolding IsWritableObject
object_words given h = (plain_text (codes "object") refl refl, (plain_number given.0.0 h.0, (plain_value given.1 h.1, tt)))

pub object_short : (given : Ob × ℤ) → IsWritableObject given → length (object_text given.0 given.1) ≤ 4096
unfolding object_text
object_short given h = omega (arith, length-joined (codes "object" ∷ decimal given.0.0 ∷ signed_decimal given.1 ∷ []) (object_words given h))

pub object_one_line : (given : Ob × ℤ) → IsWritableObject given → Lacks 10 (object_text given.0 given.1)
unfolding object_text
object_one_line given h = joined_lacks (codes "object" ∷ decimal given.0.0 ∷ signed_decimal given.1 ∷ []) (object_words given h)
