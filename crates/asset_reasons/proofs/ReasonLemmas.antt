-- A line has a reason exactly if it is bad.
use Rattle.std.proofs.Common.{◌≡◌, ℕ, Bool, true, false, cond, List, [], ◌∷◌, inl, inr, length, Option, None, Some, refl, ap, ◌∙◌, sym}
use Rattle.std.specs.Prelude.{is_some, not, option_and_then, option_map, nat_lt, codes}
use Rattle.std.specs.Str.{bytes_eq}
use Rattle.std.proofs.lemmas.Bool.{cases_Bool}
use Rattle.asset_grammar.specs.declared.grammar.Command.{Command}
use Rattle.asset_grammar.specs.declared.grammar.Command.TheVariants.{Ask, Object}
use Rattle.asset_grammar.specs.declared.grammar.Line.TheVariants as Line'
use Rattle.asset_grammar.specs.DependOperands.{kind_and_txns}
use Rattle.asset_grammar.specs.Grammar.{command_from, command_of, is_blank, line_by, line_of, object_command, step_by, step_command}
use Rattle.asset_grammar.specs.Keywords.{all_keywords, keyword_of, keyword_text}
use Rattle.asset_grammar.specs.Operands.{object_and_value, one_txn, txn_and_object, txn_and_parent, txn_object_and_value}
use Rattle.asset_grammar.specs.PermitOperands.{txn_taker_ops_and_set, txns_and_set}
use Rattle.asset_grammar.specs.Words.{words}
use Rattle.asset_reasons.specs.declared.reasons.Reason.TheVariants.{TooLong}
use Rattle.asset_reasons.specs.declared.reasons.Shape.{Shape}
use Rattle.asset_reasons.specs.declared.reasons.Shape.TheVariants.{ObjectAndValue, TxnAndParent, OneTxn, TxnAndObject, TxnObjectAndValue, TxnObjectAndAmount, TxnsOpsAndSet, TxnsAndSet, KindAndTxns}
use Rattle.asset_reasons.specs.Mistakes.{HasReasonIfBad, is_bad, mistake_by, reason_of, shape_mistake, shape_of, sharing_shape, step_shape, spelled, words_mistake}
use Rattle.asset_reasons.proofs.ShapeLemmas.{is_read, permit_made, shape_told, some_mapped}

-- the words of a shape are wrong exactly if what is read of them is nothing
told : {A B : Type 0} (first : List ℕ) (operands : List (List ℕ)) (shape : Shape) (read : Option A) (f : A → B) (g : B → Command) → is_read shape operands ≡ is_some read
    → is_some (shape_mistake first shape operands) ≡ not (is_some (option_map g (option_map f read)))
told first operands shape read f g e = shape_told first shape operands ∙ ap not (e ∙ sym (some_mapped g (option_map f read) ∙ some_mapped f read))

permit_told : (first : List ℕ) (operands : List (List ℕ)) → is_some (shape_mistake first TxnsOpsAndSet operands) ≡ not (is_some (option_map Ask (option_and_then permit_made (txn_taker_ops_and_set operands))))
permit_told first operands = shape_told first TxnsOpsAndSet operands ∙ ap not (sym (some_mapped Ask (option_and_then permit_made (txn_taker_ops_and_set operands))))

-- the words after a keyword are wrong exactly if they ask for no step
step_told : (first : List ℕ) (operands : List (List ℕ)) → is_some (mistake_by (step_shape first) first operands) ≡ not (is_some (step_command first operands))
unfolding mistake_by step_shape sharing_shape step_command keyword_of all_keywords keyword_text step_by
step_told first operands =
    elim (cases_Bool (bytes_eq (codes "initiate") first)) [
      | inl e0 ↦ rw (e0) (told first operands TxnAndParent (txn_and_parent operands) _ _ refl)
      | inr e0 ↦
          elim (cases_Bool (bytes_eq (codes "begin") first)) [
            | inl e1 ↦ rw (e0, e1) (told first operands OneTxn (one_txn operands) _ _ refl)
            | inr e1 ↦
                elim (cases_Bool (bytes_eq (codes "read") first)) [
                  | inl e2 ↦ rw (e0, e1, e2) (told first operands TxnAndObject (txn_and_object operands) _ _ refl)
                  | inr e2 ↦
                      elim (cases_Bool (bytes_eq (codes "write") first)) [
                        | inl e3 ↦ rw (e0, e1, e2, e3) (told first operands TxnObjectAndValue (txn_object_and_value operands) _ _ refl)
                        | inr e3 ↦
                            elim (cases_Bool (bytes_eq (codes "add") first)) [
                              | inl e4 ↦ rw (e0, e1, e2, e3, e4) (told first operands TxnObjectAndAmount (txn_object_and_value operands) _ _ refl)
                              | inr e4 ↦
                                  elim (cases_Bool (bytes_eq (codes "complete") first)) [
                                    | inl e5 ↦ rw (e0, e1, e2, e3, e4, e5) (told first operands OneTxn (one_txn operands) _ _ refl)
                                    | inr e5 ↦
                                        elim (cases_Bool (bytes_eq (codes "permit") first)) [
                                          | inl e6 ↦ rw (e0, e1, e2, e3, e4, e5, e6) (permit_told first operands)
                                          | inr e6 ↦
                                              elim (cases_Bool (bytes_eq (codes "commit") first)) [
                                                | inl e7 ↦ rw (e0, e1, e2, e3, e4, e5, e6, e7) (told first operands OneTxn (one_txn operands) _ _ refl)
                                                | inr e7 ↦
                                                    elim (cases_Bool (bytes_eq (codes "abort") first)) [
                                                      | inl e8 ↦ rw (e0, e1, e2, e3, e4, e5, e6, e7, e8) (told first operands OneTxn (one_txn operands) _ _ refl)
                                                      | inr e8 ↦
                                                          elim (cases_Bool (bytes_eq (codes "wait") first)) [
                                                            | inl e9 ↦ rw (e0, e1, e2, e3, e4, e5, e6, e7, e8, e9) (told first operands OneTxn (one_txn operands) _ _ refl)
                                                            | inr e9 ↦
                                                                elim (cases_Bool (bytes_eq (codes "delegate") first)) [
                                                                  | inl e10 ↦ rw (e0, e1, e2, e3, e4, e5, e6, e7, e8, e9, e10) (told first operands TxnsAndSet (txns_and_set operands) _ _ refl)
                                                                  | inr e10 ↦
                                                                      elim (cases_Bool (bytes_eq (codes "depend") first)) [
                                                                        | inl e11 ↦ rw (e0, e1, e2, e3, e4, e5, e6, e7, e8, e9, e10, e11) (told first operands KindAndTxns (kind_and_txns operands) _ _ refl)
                                                                        | inr e11 ↦
                                                                            rw (e0, e1, e2, e3, e4, e5, e6, e7, e8, e9, e10, e11) refl
                                                                      ]
                                                                ]
                                                          ]
                                                    ]
                                              ]
                                        ]
                                  ]
                            ]
                      ]
                ]
          ]
    ]

-- the words are wrong exactly if they are no command
words_told : (ws : List (List ℕ)) → is_some (words_mistake ws) ≡ not (is_some (command_from ws))
unfolding words_mistake command_from shape_of mistake_by object_command
words_told [] = refl
words_told (first ∷ operands) = go (bytes_eq first (codes "object")) where
  go : (object : Bool) → is_some (mistake_by (cond object (Some ObjectAndValue) (step_shape first)) first operands) ≡ not (is_some (cond object (object_command operands) (step_command first operands)))
  go true = shape_told first ObjectAndValue operands ∙ ap not (sym (some_mapped Object (object_and_value operands)))
  go false = step_told first operands

bad_command : (command : Option Command) → not (is_some command) ≡ is_bad (line_by command)
unfolding line_by is_bad
bad_command None = refl
bad_command (Some command) = refl

pub has_reason_if_bad : (line : List ℕ) → HasReasonIfBad line
unfolding reason_of line_of command_of is_bad
has_reason_if_bad line = go (nat_lt 4096 (length line)) (is_blank line) where
  go : (long blank : Bool) → is_some (cond long (Some (TooLong, [])) (cond blank None (option_map (spelled line) (words_mistake (words line)))))
      ≡ is_bad (cond long Line'.Bad (cond blank Line'.Blank (line_by (command_of line))))
  go true blank = refl
  go false true = refl
  go false false = some_mapped (spelled line) (words_mistake (words line)) ∙ words_told (words line) ∙ bad_command (command_from (words line))
