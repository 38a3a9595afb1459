use Rattle.std.proofs.Common.{Bool, None, Some, cond, sym, ap, ◌∙◌}
use Rattle.std.specs.Prelude.{is_some}
use Rattle.asset_objects.proofs.PlacedLemmas.{number_known}
use Rattle.asset_ends.proofs.StandingLemmas.{object_exists}
use Rattle.asset_steps.proofs.AnswerLemmas.{missing_one}
use Rattle.asset_steps.proofs.answering.missing_beside.Goals as goal

pub returns-in-Some : goal.returns-in-Some
returns-in-Some c = λ opening steps stand.
    let tables = c.args.tables.now in
    let x = c.in-Some.field-0 in
    let one = c.requires x (sym c.in-Some.ensures) in
    let there = sym (object_exists opening steps tables x.0 stand) ∙ sym (number_known tables.objects x.0) ∙ ap is_some (sym one) ∙ sym c.is_some.ensures ∙ c.if-is_some.true in
    sym (missing_one opening c.args.obs.now x (sym c.in-Some.ensures) ∙ ap (λ (b : Bool). cond b None (Some x)) there)

pub returns-in-Some-2 : goal.returns-in-Some-2
returns-in-Some-2 c = λ opening steps stand.
    let tables = c.args.tables.now in
    let x = c.in-Some.field-0 in
    let one = c.requires x (sym c.in-Some.ensures) in
    let there = sym (object_exists opening steps tables x.0 stand) ∙ sym (number_known tables.objects x.0) ∙ ap is_some (sym one) ∙ sym c.is_some.ensures ∙ c.if-is_some.false in
    sym (missing_one opening c.args.obs.now x (sym c.in-Some.ensures) ∙ ap (λ (b : Bool). cond b None (Some x)) there)
