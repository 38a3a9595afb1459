use Rattle.std.proofs.Common.{◌≡◌, ◌∙◌, ℕ, length, replicate, sym, ap, subst}
use Rattle.std.proofs.lemmas.List.{length-replicate}
use Rattle.asset_cycles.specs.Trimmed.{IsTrimmed, ArePassed}
use Rattle.asset_cycles.proofs.TrimLemmas.{none_taken, none_passed}
use Rattle.asset_cycles.proofs.trimming.Trim.of.Goals as goal

pub invariant_of-result : goal.invariant_of-result
invariant_of-result c =
    let graph = c.in_ok-graph.graph in
    let zeros : c.in_ok-passed.passed.items ≡ replicate {A = ℕ} c.args.count 0 = c.in_ok-passed.ensures.items_if_clones_equal (λ y same. same) in
    record {
      taken_size = c.in_ok-taken.ensures.size;
      passed_size = ap length zeros ∙ length-replicate {A = ℕ} c.args.count 0 ∙ sym c.in_ok-graph.ensures.count;
      trimmed = subst (IsTrimmed graph.forward.arrows.items) (sym c.in_ok-taken.ensures.nodes) (none_taken graph.forward.arrows.items);
      passed_taken = subst (ArePassed graph.forward.arrows.items graph.forward.leaving c.in_ok-taken.taken.nodes) (sym zeros) (none_passed graph.forward.arrows.items graph.forward.leaving c.in_ok-taken.taken.nodes c.args.count);
    }
