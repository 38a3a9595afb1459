use Rattle.std.proofs.Common.{◌≡◌, ◌+◌, ◌/◌, ℕ, replicate, arith}
use Rattle.std.proofs.lemmas.List.{length-replicate, get_or-replicate}
use Rattle.asset_name_groups.specs.NamesInGroups.{none_named}
use Rattle.asset_name_groups.specs.Trees.{labels_in, flags_in}
use Rattle.asset_name_groups.proofs.GroupLemmas.{none_valid}
use Rattle.asset_name_groups.proofs.groups.NameGroups.reserved.Goals as goal

pub invariant_of-result : goal.invariant_of-result
invariant_of-result c =
    let buckets : ℕ = c.args.room / 4 + 1 in
    let last : c.in_ok-vec.field-0.items ≡ replicate buckets 0 = c.in_ok-vec.ensures.items_if_clones_equal (λ y same. same) in
    let many = length-replicate {A = ℕ} buckets 0 in
    rw (c.in_ok-with_capacity.ensures.items, c.in_ok-with_capacity-2.ensures.items, c.in_ok-with_capacity-3.ensures.items, last)
    (none_valid (replicate {A = ℕ} buckets 0) c.args.room _ _ _ (omega (arith, many)) (λ k below. get_or-replicate {A = ℕ} buckets k 0 0 (omega (arith, below, many))) c.requires
    c.in_ok-with_capacity.ensures.capacity c.in_ok-with_capacity-2.ensures.capacity c.in_ok-with_capacity-3.ensures.capacity)

pub returns : goal.returns
unfolding none_named labels_in flags_in
returns c =
    let names = c.in_ok-with_capacity.ensures.items in
    let links = c.in_ok-with_capacity-3.ensures.items in
    λ i. record { names = names i; labels = labels_in (links i); flags = flags_in (links i); room = c.args.room }
