use Rattle.std.proofs.Common.{◌∙◌}
use Rattle.asset_reasons.proofs.OperandLemmas.{gather_end, gather_full, gather_more, gather_none}
use Rattle.asset_reasons.proofs.operands.objects_of.Goals as goal

pub returns-in_default-number_of : goal.returns-in_default-number_of
returns-in_default-number_of c = c.parts.invariant ∙ gather_none _ _ _ c.in-Some.part.now c.in-Some.ensures c.in_default-number_of.ensures

pub returns-then-not-add : goal.returns-then-not-add
returns-then-not-add c =
    let full = rw c.if-not-add.true at c.add.ensures in
    c.parts.invariant ∙ gather_full _ _ _ c.in-Some.part.now c.in-Some-number_of.number c.in-Some.ensures c.in-Some-number_of.ensures full

pub parts-preserved : goal.parts-preserved
parts-preserved c =
    let added = rw c.if-not-add.false at c.add.ensures in
    c.parts.invariant ∙ gather_more _ _ _ _ c.in-Some.part.now c.in-Some-number_of.number c.in-Some.ensures c.in-Some-number_of.ensures added

pub returns : goal.returns
returns c = c.parts.invariant ∙ gather_end _ _ c.in_default.ensures.0
