use Rattle.std.proofs.Common.{◌≡◌, ℕ, ◌∙◌, List, length, map, sym, ap, subst}
use Rattle.asset_buckets.specs.Bucketed.{buckets_of}
use Rattle.asset_cycles.proofs.LeavingLemmas.{start_of, bucket_count}
use Rattle.asset_cycles.specs.Cyclic.{AreBelow}
use Rattle.asset_cycles.proofs.adjacency.Adjacency.of.Goals as goal

pub invariant_of-result : goal.invariant_of-result
invariant_of-result c =
    let arrows = c.args.arrows.items in
    let starts : c.in_ok-starts.starts.items ≡ map start_of arrows = c.in_ok-starts.ensures ∙ ap (map start_of) c.deref.ensures.value in
    let is : c.in_ok-leaving.leaving ≡ buckets_of (map start_of arrows) c.args.count = c.in_ok-leaving.ensures ∙ ap (λ (l : List ℕ). buckets_of l c.args.count) (c.deref-2.ensures.value ∙ starts) in
    let count : length c.in_ok-leaving.leaving ≡ c.args.count = ap length is ∙ bucket_count (map start_of arrows) c.args.count in
    record {
      by_start = is ∙ ap (buckets_of (map start_of arrows)) (sym count);
      below = subst (AreBelow arrows) (sym count) c.requires;
    }

pub returns-clause-count : goal.returns-clause-count
returns-clause-count c = ap length c.in_ok-leaving.ensures ∙ bucket_count c.deref-2.result.now c.args.count
