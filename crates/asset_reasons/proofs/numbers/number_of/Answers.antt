use Rattle.std.proofs.Common.{sym, ap, ◌∙◌}
use Rattle.asset_grammar.specs.Numbers.{number_of}
use Rattle.asset_grammar.proofs.NumberLemmas.{not_begun}
use Rattle.asset_reasons.proofs.NumberLemmas.{no_digits, no_text}
use Rattle.asset_reasons.proofs.numbers.number_of.Goals as goal

pub returns-then-not-has_digits : goal.returns-then-not-has_digits
returns-then-not-has_digits c = no_digits c.args.word.now (sym c.has_digits.ensures ∙ c.if-not-has_digits.true)

pub returns-then-not-begins_well : goal.returns-then-not-begins_well
returns-then-not-begins_well c = not_begun c.args.word.now (sym c.begins_well.ensures ∙ c.if-not-begins_well.true)

pub returns-in-Ok : goal.returns-in-Ok
returns-in-Ok c = c.read_number.ensures ∙ ap number_of c.in-Ok.ensures.cases.0

pub returns-in-Err : goal.returns-in-Err
returns-in-Err c = no_text c.args.word.now (sym c.has_digits.ensures ∙ c.if-not-has_digits.false) c.in-Err.ensures.cases.0
