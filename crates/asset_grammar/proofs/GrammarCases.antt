-- What single lines say.
use Rattle.std.specs.Prelude.{◌≡◌, ◌++◌, [], ◌∷◌, None, Some, true, false, pos, negsuc, codes, refl, replicate}
use Rattle.asset_names.specs.declared.steps.Step.TheVariants as Step'
use Rattle.asset_grammar.specs.declared.grammar.Command.TheVariants.{Ask, Object}
use Rattle.asset_grammar.specs.declared.grammar.Line.TheVariants as Line'
use Rattle.asset_grammar.specs.Operands.{txn, ob, txn_of, ob_of, both, all_three, one_txn, txn_and_parent, object_and_value, txn_object_and_value}
use Rattle.asset_names.specs.declared.sets.ObSet.TheVariants.{All, Listed}
use Rattle.asset_names.specs.Sets.{numbers, twice, rising, put_in}
use Rattle.asset_names.specs.OpSets.{op_set}
use Rattle.asset_names.specs.declared.steps.Kind.TheVariants.{Ad}
use Rattle.asset_grammar.specs.DependOperands.{kind_of, kind_and_txns}
use Rattle.asset_grammar.specs.PermitOperands.{permit_step, taker_of, txn_taker_ops_and_set, txns_and_set}
use Rattle.asset_grammar.specs.Sets.{ops_of, one_more_object, gathered, is_list, listed, set_of}
use Rattle.asset_grammar.specs.Grammar.{step_by, object_command, step_command, command_from, command_of, is_blank, line_by, line_of}
use Rattle.asset_grammar.specs.Keywords.{keyword_text, all_keywords, keyword_of}
use Rattle.asset_grammar.specs.Lines.{lines}
use Rattle.asset_grammar.specs.Numbers.{is_numeral, number_of, positive_value, negative_value, value_of}
use Rattle.asset_grammar.specs.Words.{words, parts}

-- a line feed ends a line, and a rest is a line too; an empty line is one
cut_lines : lines (97 ∷ 10 ∷ 10 ∷ 98 ∷ []) ≡ (97 ∷ []) ∷ [] ∷ (98 ∷ []) ∷ []
unfolding lines
cut_lines = refl

-- after the last line feed stands no line
no_line_after_the_last : lines (97 ∷ 10 ∷ []) ≡ (97 ∷ []) ∷ []
unfolding lines
no_line_after_the_last = refl

zero : number_of (codes "0") ≡ Some 0
unfolding number_of is_numeral
zero = refl

leading_zero : number_of (codes "07") ≡ None
unfolding number_of is_numeral
leading_zero = refl

plus_sign : number_of (codes "+7") ≡ None
unfolding number_of is_numeral
plus_sign = refl

nothing : number_of [] ≡ None
unfolding number_of is_numeral
nothing = refl

greatest_number : number_of (codes "18446744073709551615") ≡ Some 18446744073709551615
unfolding number_of is_numeral
greatest_number = refl

past_the_greatest_number : number_of (codes "18446744073709551616") ≡ None
unfolding number_of is_numeral
past_the_greatest_number = refl

greatest_value : value_of (codes "9223372036854775807") ≡ Some (pos 9223372036854775807)
unfolding value_of positive_value number_of is_numeral
greatest_value = refl

past_the_greatest_value : value_of (codes "9223372036854775808") ≡ None
unfolding value_of positive_value number_of is_numeral
past_the_greatest_value = refl

least_value : value_of (codes "-9223372036854775808") ≡ Some (negsuc 9223372036854775807)
unfolding value_of negative_value number_of is_numeral
least_value = refl

past_the_least_value : value_of (codes "-9223372036854775809") ≡ None
unfolding value_of negative_value number_of is_numeral
past_the_least_value = refl

minus_zero : value_of (codes "-0") ≡ None
unfolding value_of negative_value number_of is_numeral
minus_zero = refl

minus_alone : value_of (codes "-") ≡ None
unfolding value_of number_of is_numeral
minus_alone = refl

leading_zero_after_the_sign : value_of (codes "-01") ≡ None
unfolding value_of number_of is_numeral
leading_zero_after_the_sign = refl

object_line : line_of (codes "object 1 -5") ≡ Line'.Command (Object (ob 1, negsuc 4))
unfolding line_of line_by is_blank command_of command_from object_command words parts object_and_value both ob_of value_of negative_value number_of is_numeral
object_line = refl

child_line : line_of (codes "initiate 8 7") ≡ Line'.Command (Ask (Step'.Initiate (txn 8) (Some (txn 7))))
unfolding line_of line_by is_blank command_of command_from step_command step_by words parts keyword_of keyword_text all_keywords txn_and_parent both txn_of number_of is_numeral
child_line = refl

write_line : line_of (codes "write 7 1 50") ≡ Line'.Command (Ask (Step'.Write (txn 7) (ob 1) (pos 50)))
unfolding line_of line_by is_blank command_of command_from step_command step_by words parts keyword_of keyword_text all_keywords txn_object_and_value all_three txn_of ob_of value_of positive_value number_of is_numeral
write_line = refl

add_line : line_of (codes "add 7 1 -5") ≡ Line'.Command (Ask (Step'.Add (txn 7) (ob 1) (negsuc 4)))
unfolding line_of line_by is_blank command_of command_from step_command step_by words parts keyword_of keyword_text all_keywords txn_object_and_value all_three txn_of ob_of value_of negative_value number_of is_numeral
add_line = refl

two_spaces : line_of (codes "begin  7") ≡ Line'.Bad
unfolding line_of line_by is_blank command_of command_from step_command step_by words parts keyword_of keyword_text all_keywords one_txn txn_of number_of is_numeral
two_spaces = refl

space_at_the_end : line_of (codes "begin 7 ") ≡ Line'.Bad
unfolding line_of line_by is_blank command_of command_from step_command step_by words parts keyword_of keyword_text all_keywords one_txn txn_of number_of is_numeral
space_at_the_end = refl

space_at_the_start : line_of (codes " begin 7") ≡ Line'.Bad
unfolding line_of line_by is_blank command_of command_from step_command words parts keyword_of keyword_text all_keywords
space_at_the_start = refl

carriage_return : line_of (codes "begin 7" ++ 13 ∷ []) ≡ Line'.Bad
unfolding line_of line_by is_blank command_of command_from step_command step_by words parts keyword_of keyword_text all_keywords one_txn txn_of number_of is_numeral
carriage_return = refl

upper_case : line_of (codes "Begin 7") ≡ Line'.Bad
unfolding line_of line_by is_blank command_of command_from step_command words parts keyword_of keyword_text all_keywords
upper_case = refl

empty_line : line_of [] ≡ Line'.Blank
unfolding line_of is_blank
empty_line = refl

remark : line_of (codes "#  begin") ≡ Line'.Blank
unfolding line_of is_blank
remark = refl

longest_remark : line_of (replicate 4096 35) ≡ Line'.Blank
unfolding line_of is_blank
longest_remark = refl

remark_that_is_too_long : line_of (replicate 4097 35) ≡ Line'.Bad
unfolding line_of is_blank
remark_that_is_too_long = refl

-- a permit's objects stand in any order, and are kept in rising order
permit_line : line_of (codes "permit 7 8 rw 3,1,2") ≡ Line'.Command (Ask (Step'.Permit (txn 7) (txn 8) (Listed (ob 1 ∷ ob 2 ∷ ob 3 ∷ [])) (op_set true true false)))
unfolding line_of line_by is_blank command_of command_from step_command step_by words parts keyword_of keyword_text all_keywords txn_taker_ops_and_set taker_of permit_step both txn_of ob_of number_of is_numeral ops_of set_of gathered one_more_object listed is_list numbers twice rising put_in
permit_line = refl

permit_of_all : line_of (codes "permit 7 8 r all") ≡ Line'.Command (Ask (Step'.Permit (txn 7) (txn 8) All (op_set true false false)))
unfolding line_of line_by is_blank command_of command_from step_command step_by words parts keyword_of keyword_text all_keywords txn_taker_ops_and_set taker_of permit_step both txn_of number_of is_numeral ops_of set_of
permit_of_all = refl

-- `any` in the taker's place is anybody, and nothing else is
permit_to_anybody : line_of (codes "permit 7 any r 3,1") ≡ Line'.Command (Ask (Step'.PermitAny (txn 7) (ob 1 ∷ ob 3 ∷ []) (op_set true false false)))
unfolding line_of line_by is_blank command_of command_from step_command step_by words parts keyword_of keyword_text all_keywords txn_taker_ops_and_set taker_of permit_step both txn_of ob_of number_of is_numeral ops_of set_of gathered one_more_object listed is_list numbers twice rising put_in
permit_to_anybody = refl

permit_of_all_to_anybody : line_of (codes "permit 7 any r all") ≡ Line'.Bad
unfolding line_of line_by is_blank command_of command_from step_command step_by words parts keyword_of keyword_text all_keywords txn_taker_ops_and_set taker_of permit_step both txn_of number_of is_numeral ops_of set_of
permit_of_all_to_anybody = refl

permit_to_anyone : line_of (codes "permit 7 anyone r 1") ≡ Line'.Bad
unfolding line_of line_by is_blank command_of command_from step_command step_by words parts keyword_of keyword_text all_keywords txn_taker_ops_and_set taker_of permit_step both txn_of number_of is_numeral
permit_to_anyone = refl

permit_by_anybody : line_of (codes "permit any 7 r 1") ≡ Line'.Bad
unfolding line_of line_by is_blank command_of command_from step_command step_by words parts keyword_of keyword_text all_keywords txn_taker_ops_and_set taker_of permit_step both txn_of number_of is_numeral
permit_by_anybody = refl

permit_of_a_double : line_of (codes "permit 7 8 w 1,2,1") ≡ Line'.Bad
unfolding line_of line_by is_blank command_of command_from step_command step_by words parts keyword_of keyword_text all_keywords txn_taker_ops_and_set taker_of permit_step both txn_of ob_of number_of is_numeral ops_of set_of gathered one_more_object listed is_list numbers twice
permit_of_a_double = refl

permit_of_nothing : line_of (codes "permit 7 8 w 1,") ≡ Line'.Bad
unfolding line_of line_by is_blank command_of command_from step_command step_by words parts keyword_of keyword_text all_keywords txn_taker_ops_and_set taker_of permit_step both txn_of ob_of number_of is_numeral ops_of set_of gathered one_more_object
permit_of_nothing = refl

permit_of_other_operations : line_of (codes "permit 7 8 wr 1") ≡ Line'.Bad
unfolding line_of line_by is_blank command_of command_from step_command step_by words parts keyword_of keyword_text all_keywords txn_taker_ops_and_set taker_of permit_step both txn_of ob_of number_of is_numeral ops_of set_of gathered one_more_object listed is_list numbers twice
permit_of_other_operations = refl

permit_to_add : line_of (codes "permit 7 8 rwa all") ≡ Line'.Command (Ask (Step'.Permit (txn 7) (txn 8) All (op_set true true true)))
unfolding line_of line_by is_blank command_of command_from step_command step_by words parts keyword_of keyword_text all_keywords txn_taker_ops_and_set taker_of permit_step both txn_of number_of is_numeral ops_of set_of
permit_to_add = refl

permit_of_turned_operations : line_of (codes "permit 7 8 aw 1") ≡ Line'.Bad
unfolding line_of line_by is_blank command_of command_from step_command step_by words parts keyword_of keyword_text all_keywords txn_taker_ops_and_set taker_of permit_step both txn_of ob_of number_of is_numeral ops_of set_of gathered one_more_object listed is_list numbers twice
permit_of_turned_operations = refl

-- a delegation's objects stand in any order too, and it names no operations
delegate_line : line_of (codes "delegate 7 8 2,1") ≡ Line'.Command (Ask (Step'.Delegate (txn 7) (txn 8) (Listed (ob 1 ∷ ob 2 ∷ []))))
unfolding line_of line_by is_blank command_of command_from step_command step_by words parts keyword_of keyword_text all_keywords txns_and_set both txn_of ob_of number_of is_numeral set_of gathered one_more_object listed is_list numbers twice rising put_in
delegate_line = refl

delegation_of_all : line_of (codes "delegate 7 8 all") ≡ Line'.Command (Ask (Step'.Delegate (txn 7) (txn 8) All))
unfolding line_of line_by is_blank command_of command_from step_command step_by words parts keyword_of keyword_text all_keywords txns_and_set both txn_of number_of is_numeral set_of
delegation_of_all = refl

delegation_of_a_double : line_of (codes "delegate 7 8 1,2,1") ≡ Line'.Bad
unfolding line_of line_by is_blank command_of command_from step_command step_by words parts keyword_of keyword_text all_keywords txns_and_set both txn_of ob_of number_of is_numeral set_of gathered one_more_object listed is_list numbers twice
delegation_of_a_double = refl

delegation_of_nothing : line_of (codes "delegate 7 8") ≡ Line'.Bad
unfolding line_of line_by is_blank command_of command_from step_command step_by words parts keyword_of keyword_text all_keywords txns_and_set both txn_of
delegation_of_nothing = refl

delegation_with_operations : line_of (codes "delegate 7 8 rw 1") ≡ Line'.Bad
unfolding line_of line_by is_blank command_of command_from step_command step_by words parts keyword_of keyword_text all_keywords txns_and_set both txn_of
delegation_with_operations = refl

-- a dependency names its kind first
depend_line : line_of (codes "depend ad 7 8") ≡ Line'.Command (Ask (Step'.Depend Ad (txn 7) (txn 8)))
unfolding line_of line_by is_blank command_of command_from step_command step_by words parts keyword_of keyword_text all_keywords kind_and_txns kind_of both txn_of number_of is_numeral
depend_line = refl

dependency_of_another_kind : line_of (codes "depend xd 7 8") ≡ Line'.Bad
unfolding line_of line_by is_blank command_of command_from step_command step_by words parts keyword_of keyword_text all_keywords kind_and_txns kind_of both txn_of number_of is_numeral
dependency_of_another_kind = refl

dependency_of_one : line_of (codes "depend gc 7") ≡ Line'.Bad
unfolding line_of line_by is_blank command_of command_from step_command step_by words parts keyword_of keyword_text all_keywords kind_and_txns
dependency_of_one = refl
