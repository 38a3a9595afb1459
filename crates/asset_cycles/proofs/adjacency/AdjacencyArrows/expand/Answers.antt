use Rattle.std.proofs.Common.{◌≡◌, ◌∙◌, true, [], refl, sym, ap, subst, arith, inl, inr}
use Rattle.std.proofs.lemmas.Bool.{cases_eq}
use Rattle.std.proofs.lemmas.List.{append-nil}
use Rattle.asset_names.specs.Arrows.{lists}
use Rattle.asset_marks.proofs.WalkLemmas.{no_more, met_more, met_here, met_listed}
use Rattle.asset_cycles.specs.Leaving.{end_at}
use Rattle.asset_cycles.proofs.LeavingLemmas.{row_has}
use Rattle.asset_cycles.proofs.adjacency.AdjacencyArrows.expand.Goals as goal

pub arrows-init : goal.arrows-init
arrows-init c = record {
  size = refl;
  more = record { more = []; kept = sym (append-nil c.args.marks.now.nodes); is_linked = λ t there. no_more t there };
  met = λ i before. absurd (omega (arith, before));
}

pub meet-requires : goal.meet-requires
meet-requires c = omega (arith, c.requires c.args.node c.end.result c.end.ensures.arrow, c.arrows.invariant.size)

pub arrows-preserved : goal.arrows-preserved
arrows-preserved c =
    let arrows = c.args.self.now.arrows.items in
    let nodes = c.arrows.marks.nodes in
    let after = c.meet.new.self.nodes in
    let end = c.end.result in
    record {
      size = c.meet.ensures.size ∙ c.arrows.invariant.size;
      more = met_more arrows c.args.node c.args.marks.now.nodes nodes after end c.arrows.invariant.more c.end.ensures.arrow c.meet.ensures.nodes;
      met = λ i before. elim (cases_eq i c.arrows.index) [
        | inl last ↦ ap (lists after) (ap (end_at arrows c.args.self.now.leaving c.args.node) last ∙ sym c.end.ensures.end) ∙ met_here nodes after end c.meet.ensures.nodes
        | inr other ↦ met_listed nodes after end _ c.meet.ensures.nodes (c.arrows.invariant.met i (omega (arith, before)))
      ];
    }

pub returns-clause-expanded : goal.returns-clause-expanded
returns-clause-expanded c =
    let way = c.args.self.now in
    let more = c.arrows.invariant.more in
    record {
      more = more.more;
      kept = more.kept;
      is_linked = more.is_linked;
      all = λ t arrow.
          let found = row_has way.arrows.items way.leaving c.args.node t way.by_start way.below arrow in
          subst (λ n. lists c.arrows.marks.nodes n ≡ true) found.2 (c.arrows.invariant.met found.0 (omega (arith, found.1, c.arrows-test.false, c.degree-index-end.ensures)));
    }
