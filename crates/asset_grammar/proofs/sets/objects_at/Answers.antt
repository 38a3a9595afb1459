use Rattle.std.proofs.Common.{sym, ◌∙◌, refl, arith}
use Rattle.std.proofs.lemmas.Bool.{eqb-true}
use Rattle.asset_grammar.specs.Lines.{first_line}
use Rattle.asset_grammar.proofs.FirstLineLemmas.{no_number_first}
use Rattle.asset_grammar.proofs.SetWordLemmas.{no_objects, full_gathers_none, before_comma_first, ends_set}
use Rattle.asset_grammar.proofs.sets.objects_at.Goals as goal

pub overflow_add-size : goal.overflow_add-size
overflow_add-size c = omega (arith, c.if-not-has_at.ensures.inside, c.has_at.ensures.fits)

pub numbers-init : goal.numbers-init
numbers-init c = record { gathers = refl; line = refl }

pub returns-then-not-add : goal.returns-then-not-add
returns-then-not-add c =
    let full = rw c.if-not-add.true at c.add.ensures in
    c.numbers.invariant.gathers ∙ full_gathers_none _ _ (first_line c.numbers.rest.now) full

pub returns-then-not-has_at : goal.returns-then-not-has_at
returns-then-not-has_at c =
    let added = rw c.if-not-add.false at c.add.ensures in
    rw (c.numbers.invariant.gathers, c.numbers.invariant.line)
    (ends_set _ _ c.numbers.rest.now c.in-Some.number c.in-Some.size c.words_after.result c.in-Some.ensures added (sym c.has_at.ensures.is ∙ c.if-not-has_at.true) c.words_after.ensures.ends c.words_after.ensures.goes_on)

pub numbers-preserved : goal.numbers-preserved
numbers-preserved c =
    let added = rw c.if-not-add.false at c.add.ensures in
    let comma = eqb-true _ _ (sym c.has_at.ensures.is ∙ c.if-not-has_at.false) in
    let step = before_comma_first _ _ c.numbers.rest.now c.in-Some.number c.in-Some.size c.in-Some.ensures comma c.if-not-has_at.ensures.inside added in
    record {
      gathers = c.numbers.invariant.gathers ∙ rw c.split_at.ensures.back step.0;
      line = c.numbers.invariant.line ∙ rw c.split_at.ensures.back step.1;
    }

pub returns : goal.returns
returns c = c.numbers.invariant.gathers ∙ no_objects _ (first_line c.numbers.rest.now) (no_number_first c.numbers.rest.now c.in_default.ensures)
