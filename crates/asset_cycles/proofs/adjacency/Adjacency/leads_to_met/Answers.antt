use Rattle.std.proofs.Common.{◌≡◌, ◌∙◌, true, sym, ap, subst, arith, inl, inr}
use Rattle.std.proofs.lemmas.Bool.{cases_eq, true≢false, false_from_ne_true}
use Rattle.asset_names.specs.Arrows.{lists}
use Rattle.asset_cycles.specs.Leaving.{end_at}
use Rattle.asset_cycles.proofs.LeavingLemmas.{row_has}
use Rattle.asset_cycles.proofs.ReachLemmas.{leads_by, leads_parts}
use Rattle.asset_cycles.proofs.adjacency.Adjacency.leads_to_met.Goals as goal

pub returns-then-has : goal.returns-then-has
returns-then-has c = sym (leads_by (lists c.args.marks.now.nodes) c.args.self.now.arrows.items c.args.node c.end.result c.end.ensures.arrow (sym c.has.ensures ∙ c.if-has.true))

pub arrows-preserved : goal.arrows-preserved
arrows-preserved c = λ i before. elim (cases_eq i c.arrows.index) [
  | inl last ↦ ap (lists c.args.marks.now.nodes) (ap (end_at c.args.self.now.arrows.items c.args.self.now.leaving c.args.node) last ∙ sym c.end.ensures.end) ∙ sym c.has.ensures ∙ c.if-has.false
  | inr other ↦ c.arrows.invariant i (omega (arith, before, other))
]

pub returns : goal.returns
returns c =
    let way = c.args.self.now in
    let nodes = c.args.marks.now.nodes in
    sym (false_from_ne_true _ (λ h.
    let leads = leads_parts (lists nodes) way.arrows.items c.args.node h in
    let found = row_has way.arrows.items way.leaving c.args.node leads.0 way.by_start way.below leads.1 in
    let none = c.arrows.invariant found.0 (omega (arith, found.1, c.arrows-test.false, c.degree-index-end.ensures)) in
    true≢false (sym (subst (λ n. lists nodes n ≡ true) (sym found.2) leads.2) ∙ none)))
