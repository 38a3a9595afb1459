use Rattle.std.proofs.Common.{◌≡◌, ◌∙◌, ◌<◌, true, length, subst, arith}
use Rattle.std.proofs.lemmas.List.{length-set}
use Rattle.asset_names.specs.Arrows.{lists}
use Rattle.asset_cycles.proofs.LeavingLemmas.{row_has}
use Rattle.asset_cycles.proofs.TrimLemmas.{one_taken, more_passed, still_passed}
use Rattle.asset_cycles.proofs.trimming.Trim.take.Goals as goal

pub invariant_of-self : goal.invariant_of-self
invariant_of-self c =
    let trim = c.args.self.now in
    let way = trim.graph.forward in
    let inside : c.args.node < length trim.passed.items = omega (arith, trim.passed_size, c.requires) in
    let passed = more_passed way.arrows.items way.leaving trim.taken.nodes trim.passed.items c.args.node c.first_unmet-passed.result inside trim.passed_taken c.first_unmet-passed.ensures in
    record {
      taken_size = c.meet.ensures.size ∙ trim.taken_size;
      passed_size = length-set trim.passed.items c.args.node c.first_unmet-passed.result ∙ trim.passed_size;
      trimmed = one_taken way.arrows.items trim.taken.nodes c.meet.new.self.nodes c.args.node trim.trimmed (λ t arrow.
          let found = row_has way.arrows.items way.leaving c.args.node t way.by_start way.below arrow in
          subst (λ n. lists trim.taken.nodes n ≡ true) found.2 (c.first_unmet-passed.ensures found.0 (omega (arith, found.1, c.if-passed-degree.true, c.degree.ensures)))) c.meet.ensures.nodes;
      passed_taken = still_passed way.arrows.items way.leaving trim.taken.nodes c.meet.new.self.nodes _ c.args.node c.meet.ensures.nodes passed;
    }
