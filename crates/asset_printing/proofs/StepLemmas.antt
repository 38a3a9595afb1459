-- A line that is printed reads back.
use Rattle.std.proofs.Common.{◌≡◌, ◌<◌, ◌^◌, ◌||◌, Bool, true, false, List, [], ◌∷◌, refl}
use Rattle.std.specs.Prelude.{ℤ, Some, None, codes}
use Rattle.std.specs.Int.Signed.{mag}
use Rattle.std.specs.Fmt.{decimal, signed_decimal}
use Rattle.asset_names.specs.declared.names.Txn.{Txn}
use Rattle.asset_names.specs.declared.names.Ob.{Ob}
use Rattle.asset_names.specs.declared.sets.ObSet.{ObSet}
use Rattle.asset_names.specs.declared.sets.ObSet.TheVariants.{Listed}
use Rattle.asset_names.specs.OpSets.{OpSet}
use Rattle.asset_names.specs.declared.steps.Kind.{Kind}
use Rattle.asset_names.specs.declared.steps.Kind.TheVariants.{Cd, Ad, Gc}
use Rattle.asset_names.specs.declared.steps.Step.TheVariants as Step'
use Rattle.asset_grammar.specs.declared.grammar.Command.TheVariants.{Ask, Object}
use Rattle.asset_grammar.specs.DependOperands.{kind_of, kind_and_txns}
use Rattle.asset_grammar.specs.PermitOperands.{permit_step, taker_of, txn_taker_ops_and_set, txns_and_set}
use Rattle.asset_grammar.specs.Operands.{txn_of, ob_of, both, all_three, one_txn, txn_and_parent, txn_and_object, object_and_value, txn_object_and_value}
use Rattle.asset_grammar.specs.Grammar.{step_by, object_command, step_command, command_from, command_of}
use Rattle.asset_grammar.specs.Keywords.{keyword_text, all_keywords, keyword_of}
use Rattle.asset_grammar.specs.Lines.{Lacks}
use Rattle.asset_grammar.specs.Sets.{ops_of, set_of}
use Rattle.asset_grammar.specs.Words.{words}
use Rattle.asset_grammar.proofs.NumberLaws.{number_of-decimal, value_of-signed_decimal}
use Rattle.asset_printing.specs.Printed.{kind_text, object_text, ops_text, parent_words, set_text, step_text, step_words}
use Rattle.asset_printing.proofs.SetLemmas.{number_not_any}
use Rattle.asset_printing.proofs.WordLemmas.{cut_again, number_lacks, text_lacks, value_lacks}

pub object_reads : (x : Ob) (v : ℤ) → x.0 < 2 ^ 64 → mag v < 2 ^ 63 → command_of (object_text x v) ≡ Some (Object (x, v))
unfolding object_text command_of words command_from object_command object_and_value both ob_of
object_reads x v small fits =
    rw (
      cut_again 32 (codes "object") (decimal x.0 ∷ signed_decimal v ∷ []) (text_lacks 32 (codes "object") refl) (number_lacks 32 x.0 refl small, (value_lacks v fits, tt)),
      number_of-decimal x.0 small,
      value_of-signed_decimal v fits,
    ) refl

pub begin_reads : (t : Txn) → t.0 < 2 ^ 64 → command_of (step_text (Step'.Begin t)) ≡ Some (Ask (Step'.Begin t))
unfolding step_text step_words command_of words command_from step_command step_by keyword_of keyword_text all_keywords txn_of one_txn
begin_reads t t_small =
    rw (
      cut_again 32 (codes "begin") (decimal t.0 ∷ []) (text_lacks 32 (codes "begin") refl) (number_lacks 32 t.0 refl t_small, tt),
      number_of-decimal t.0 t_small,
    ) refl

pub complete_reads : (t : Txn) → t.0 < 2 ^ 64 → command_of (step_text (Step'.Complete t)) ≡ Some (Ask (Step'.Complete t))
unfolding step_text step_words command_of words command_from step_command step_by keyword_of keyword_text all_keywords txn_of one_txn
complete_reads t t_small =
    rw (
      cut_again 32 (codes "complete") (decimal t.0 ∷ []) (text_lacks 32 (codes "complete") refl) (number_lacks 32 t.0 refl t_small, tt),
      number_of-decimal t.0 t_small,
    ) refl

pub commit_reads : (t : Txn) → t.0 < 2 ^ 64 → command_of (step_text (Step'.Commit t)) ≡ Some (Ask (Step'.Commit t))
unfolding step_text step_words command_of words command_from step_command step_by keyword_of keyword_text all_keywords txn_of one_txn
commit_reads t t_small =
    rw (
      cut_again 32 (codes "commit") (decimal t.0 ∷ []) (text_lacks 32 (codes "commit") refl) (number_lacks 32 t.0 refl t_small, tt),
      number_of-decimal t.0 t_small,
    ) refl

pub abort_reads : (t : Txn) → t.0 < 2 ^ 64 → command_of (step_text (Step'.Abort t)) ≡ Some (Ask (Step'.Abort t))
unfolding step_text step_words command_of words command_from step_command step_by keyword_of keyword_text all_keywords txn_of one_txn
abort_reads t t_small =
    rw (
      cut_again 32 (codes "abort") (decimal t.0 ∷ []) (text_lacks 32 (codes "abort") refl) (number_lacks 32 t.0 refl t_small, tt),
      number_of-decimal t.0 t_small,
    ) refl

pub wait_reads : (t : Txn) → t.0 < 2 ^ 64 → command_of (step_text (Step'.WaitFor t)) ≡ Some (Ask (Step'.WaitFor t))
unfolding step_text step_words command_of words command_from step_command step_by keyword_of keyword_text all_keywords txn_of one_txn
wait_reads t t_small =
    rw (
      cut_again 32 (codes "wait") (decimal t.0 ∷ []) (text_lacks 32 (codes "wait") refl) (number_lacks 32 t.0 refl t_small, tt),
      number_of-decimal t.0 t_small,
    ) refl

pub initiate_reads : (t : Txn) → t.0 < 2 ^ 64 → command_of (step_text (Step'.Initiate t None)) ≡ Some (Ask (Step'.Initiate t None))
unfolding step_text step_words command_of words command_from step_command step_by keyword_of keyword_text all_keywords txn_of parent_words txn_and_parent both
initiate_reads t t_small =
    rw (
      cut_again 32 (codes "initiate") (decimal t.0 ∷ []) (text_lacks 32 (codes "initiate") refl) (number_lacks 32 t.0 refl t_small, tt),
      number_of-decimal t.0 t_small,
    ) refl

pub child_reads : (t parent : Txn) → t.0 < 2 ^ 64 → parent.0 < 2 ^ 64 → command_of (step_text (Step'.Initiate t (Some parent))) ≡ Some (Ask (Step'.Initiate t (Some parent)))
unfolding step_text step_words command_of words command_from step_command step_by keyword_of keyword_text all_keywords txn_of parent_words txn_and_parent both
child_reads t parent t_small parent_small =
    rw (
      cut_again 32 (codes "initiate") (decimal t.0 ∷ decimal parent.0 ∷ []) (text_lacks 32 (codes "initiate") refl) (number_lacks 32 t.0 refl t_small, (number_lacks 32 parent.0 refl parent_small, tt)),
      number_of-decimal t.0 t_small,
      number_of-decimal parent.0 parent_small,
    ) refl

pub read_reads : (t : Txn) (x : Ob) → t.0 < 2 ^ 64 → x.0 < 2 ^ 64 → command_of (step_text (Step'.Read t x)) ≡ Some (Ask (Step'.Read t x))
unfolding step_text step_words command_of words command_from step_command step_by keyword_of keyword_text all_keywords txn_of txn_and_object both ob_of
read_reads t x t_small x_small =
    rw (
      cut_again 32 (codes "read") (decimal t.0 ∷ decimal x.0 ∷ []) (text_lacks 32 (codes "read") refl) (number_lacks 32 t.0 refl t_small, (number_lacks 32 x.0 refl x_small, tt)),
      number_of-decimal t.0 t_small,
      number_of-decimal x.0 x_small,
    ) refl

pub write_reads : (t : Txn) (x : Ob) (v : ℤ) → t.0 < 2 ^ 64 → x.0 < 2 ^ 64 → mag v < 2 ^ 63 → command_of (step_text (Step'.Write t x v)) ≡ Some (Ask (Step'.Write t x v))
unfolding step_text step_words command_of words command_from step_command step_by keyword_of keyword_text all_keywords txn_of txn_object_and_value all_three ob_of
write_reads t x v t_small x_small fits =
    rw (
      cut_again 32 (codes "write") (decimal t.0 ∷ decimal x.0 ∷ signed_decimal v ∷ []) (text_lacks 32 (codes "write") refl) (number_lacks 32 t.0 refl t_small, (number_lacks 32 x.0 refl x_small, (value_lacks v fits, tt))),
      number_of-decimal t.0 t_small,
      number_of-decimal x.0 x_small,
      value_of-signed_decimal v fits,
    ) refl

pub add_reads : (t : Txn) (x : Ob) (d : ℤ) → t.0 < 2 ^ 64 → x.0 < 2 ^ 64 → mag d < 2 ^ 63 → command_of (step_text (Step'.Add t x d)) ≡ Some (Ask (Step'.Add t x d))
unfolding step_text step_words command_of words command_from step_command step_by keyword_of keyword_text all_keywords txn_of txn_object_and_value all_three ob_of
add_reads t x d t_small x_small fits =
    rw (
      cut_again 32 (codes "add") (decimal t.0 ∷ decimal x.0 ∷ signed_decimal d ∷ []) (text_lacks 32 (codes "add") refl) (number_lacks 32 t.0 refl t_small, (number_lacks 32 x.0 refl x_small, (value_lacks d fits, tt))),
      number_of-decimal t.0 t_small,
      number_of-decimal x.0 x_small,
      value_of-signed_decimal d fits,
    ) refl

pub delegate_reads : (giver taker : Txn) (obs : ObSet) → giver.0 < 2 ^ 64 → taker.0 < 2 ^ 64 → set_of (set_text obs) ≡ Some obs → Lacks 32 (set_text obs) → command_of (step_text (Step'.Delegate giver taker obs)) ≡ Some (Ask (Step'.Delegate giver taker obs))
unfolding step_text step_words command_of words command_from step_command step_by keyword_of keyword_text all_keywords txn_of txns_and_set both
delegate_reads giver taker obs giver_small taker_small back lacks =
    rw (
      cut_again 32 (codes "delegate") (decimal giver.0 ∷ decimal taker.0 ∷ set_text obs ∷ []) (text_lacks 32 (codes "delegate") refl) (number_lacks 32 giver.0 refl giver_small, (number_lacks 32 taker.0 refl taker_small, (lacks, tt))),
      number_of-decimal giver.0 giver_small,
      number_of-decimal taker.0 taker_small,
      back,
    ) refl

-- a set of operations reads back
pub ops_read : (ops : OpSet) → (ops.read || ops.write || ops.add) ≡ true → ops_of (ops_text ops) ≡ Some ops
unfolding ops_of ops_text
ops_read ops some = go ops.read ops.write ops.add refl refl refl some where
  go : (read write add : Bool) → ops.read ≡ read → ops.write ≡ write → ops.add ≡ add → (read || write || add) ≡ true → ops_of (ops_text ops) ≡ Some ops
  go true true true r w a h = rw (r, w, a) refl
  go true true false r w a h = rw (r, w, a) refl
  go true false true r w a h = rw (r, w, a) refl
  go true false false r w a h = rw (r, w, a) refl
  go false true true r w a h = rw (r, w, a) refl
  go false true false r w a h = rw (r, w, a) refl
  go false false true r w a h = rw (r, w, a) refl
  go false false false r w a h = absurd (cc)

pub ops_lack : (ops : OpSet) → Lacks 32 (ops_text ops)
unfolding ops_text
ops_lack ops = go ops.read ops.write ops.add refl refl refl where
  go : (read write add : Bool) → ops.read ≡ read → ops.write ≡ write → ops.add ≡ add → Lacks 32 (ops_text ops)
  go true true true r w a = rw (r, w, a) (text_lacks 32 (codes "rwa") refl)
  go true true false r w a = rw (r, w, a) (text_lacks 32 (codes "rw") refl)
  go true false true r w a = rw (r, w, a) (text_lacks 32 (codes "ra") refl)
  go true false false r w a = rw (r, w, a) (text_lacks 32 (codes "r") refl)
  go false true true r w a = rw (r, w, a) (text_lacks 32 (codes "wa") refl)
  go false true false r w a = rw (r, w, a) (text_lacks 32 (codes "w") refl)
  go false false true r w a = rw (r, w, a) (text_lacks 32 (codes "a") refl)
  go false false false r w a = rw (r, w, a) (text_lacks 32 (codes "") refl)

taker_reads : (taker : Txn) → taker.0 < 2 ^ 64 → taker_of (decimal taker.0) ≡ Some (Some taker)
unfolding taker_of txn_of
taker_reads taker small = rw (number_not_any taker.0 small, number_of-decimal taker.0 small) refl

pub permit_reads : (giver taker : Txn) (obs : ObSet) (ops : OpSet) → giver.0 < 2 ^ 64 → taker.0 < 2 ^ 64 → (ops.read || ops.write || ops.add) ≡ true → set_of (set_text obs) ≡ Some obs → Lacks 32 (set_text obs) → command_of (step_text (Step'.Permit giver taker obs ops)) ≡ Some (Ask (Step'.Permit giver taker obs ops))
unfolding step_text step_words command_of words command_from step_command step_by keyword_of keyword_text all_keywords txn_of taker_of permit_step txn_taker_ops_and_set both
permit_reads giver taker obs ops giver_small taker_small some back lacks =
    rw (
      cut_again 32 (codes "permit") (decimal giver.0 ∷ decimal taker.0 ∷ ops_text ops ∷ set_text obs ∷ []) (text_lacks 32 (codes "permit") refl) (number_lacks 32 giver.0 refl giver_small, (number_lacks 32 taker.0 refl taker_small, (ops_lack ops, (lacks, tt)))),
      number_of-decimal giver.0 giver_small,
      taker_reads taker taker_small,
      ops_read ops some,
      back,
    ) refl

pub open_reads : (giver : Txn) (obs : List Ob) (ops : OpSet) → giver.0 < 2 ^ 64 → (ops.read || ops.write || ops.add) ≡ true → set_of (set_text (Listed obs)) ≡ Some (Listed obs) → Lacks 32 (set_text (Listed obs)) → command_of (step_text (Step'.PermitAny giver obs ops)) ≡ Some (Ask (Step'.PermitAny giver obs ops))
unfolding step_text step_words command_of words command_from step_command step_by keyword_of keyword_text all_keywords txn_of taker_of permit_step txn_taker_ops_and_set both
open_reads giver obs ops giver_small some back lacks =
    rw (
      cut_again 32 (codes "permit") (decimal giver.0 ∷ codes "any" ∷ ops_text ops ∷ set_text (Listed obs) ∷ []) (text_lacks 32 (codes "permit") refl) (number_lacks 32 giver.0 refl giver_small, (text_lacks 32 (codes "any") refl, (ops_lack ops, (lacks, tt)))),
      number_of-decimal giver.0 giver_small,
      ops_read ops some,
      back,
    ) refl

pub kind_reads : (kind : Kind) → kind_of (kind_text kind) ≡ Some kind
unfolding kind_of kind_text
kind_reads Cd = refl
kind_reads Ad = refl
kind_reads Gc = refl

pub kind_lacks : (kind : Kind) → Lacks 32 (kind_text kind)
unfolding kind_text
kind_lacks Cd = text_lacks 32 (codes "cd") refl
kind_lacks Ad = text_lacks 32 (codes "ad") refl
kind_lacks Gc = text_lacks 32 (codes "gc") refl

pub depend_reads : (kind : Kind) (a b : Txn) → a.0 < 2 ^ 64 → b.0 < 2 ^ 64 → command_of (step_text (Step'.Depend kind a b)) ≡ Some (Ask (Step'.Depend kind a b))
unfolding step_text step_words command_of words command_from step_command step_by keyword_of keyword_text all_keywords txn_of kind_and_txns both
depend_reads kind a b a_small b_small =
    rw (
      cut_again 32 (codes "depend") (kind_text kind ∷ decimal a.0 ∷ decimal b.0 ∷ []) (text_lacks 32 (codes "depend") refl) (kind_lacks kind, (number_lacks 32 a.0 refl a_small, (number_lacks 32 b.0 refl b_small, tt))),
      kind_reads kind,
      number_of-decimal a.0 a_small,
      number_of-decimal b.0 b_small,
    ) refl
