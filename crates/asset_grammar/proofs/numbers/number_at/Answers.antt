use Rattle.std.proofs.Common.{sym, ◌∙◌, arith}
use Rattle.asset_grammar.proofs.NumberLemmas.{none_when_bad, number_when_good}
use Rattle.asset_grammar.proofs.numbers.number_at.Goals as goal

pub returns-then-begins_well : goal.returns-then-begins_well
returns-then-begins_well c =
    let read = c.in_ok-number.ensures in
    number_when_good c.args.text.now c.in_ok-number.size c.in_ok-number.number read.first.within read.first.digits read.ends
    (sym c.begins_well.ensures ∙ c.if-begins_well.true) read.first.value (omega arith)

pub returns-else-begins_well : goal.returns-else-begins_well
returns-else-begins_well c =
    let read = c.in_ok-number.ensures in
    none_when_bad c.args.text.now c.in_ok-number.size read.first.within read.first.digits read.ends
    (sym c.begins_well.ensures ∙ c.if-begins_well.false)
