use Rattle.std.proofs.Common.{◌≡◌, ◌+◌, set, ap, ◌∙◌, arith, add-one}
use Rattle.std.proofs.lemmas.List.{get_or_read, length-set}
use Rattle.asset_chains.specs.declared.links.Link.{Link}
use Rattle.asset_chains.specs.Chained.{pushed}
use Rattle.asset_chains.specs.Linked.{no_head, seen}
use Rattle.asset_chains.specs.Slots.{links_of, IsLined}
use Rattle.asset_chains.proofs.StoreLemmas.{push_leaves}
use Rattle.asset_chains.proofs.SlotLemmas.{same_length, there_kept, head_there, key_linked, count_below, lined_from}
use Rattle.asset_chains.proofs.lines.join.Goals as goal

pub set_after-requires : goal.set_after-requires
set_after-requires g c =
    head_there c.args.side c.args.slots.now c.args.heads.now.items c.requires.lined c.args.chain c.index-head.result.now
    (get_or_read c.args.heads.now.items c.args.chain c.index-head.result.now c.requires.chain c.index-head.ensures no_head)

pub set_link-requires : goal.set_link-requires
set_link-requires g c = there_kept c.args.slots.now c.set_after.new.slots c.set_after.ensures.values c.args.key ∙ c.requires.there

pub with_last-requires : goal.with_last-requires
with_last-requires g c =
    omega (
      arith,
      count_below c.args.side c.args.slots.now c.args.heads.now.items c.requires.lined c.requires.few c.args.chain c.args.key c.index-head.result.now
          (get_or_read c.args.heads.now.items c.args.chain c.index-head.result.now c.requires.chain c.index-head.ensures no_head) c.requires.chain c.requires.there c.requires.free,
    )

-- what is stored then, and what is seen
joined : (g : _) (c : goal.After-heads-1 g)
    → IsLined c.args.side c.set_link.new.slots (set c.args.heads.now.items c.args.chain c.with_last.result)
    × (seen (links_of c.args.side c.set_link.new.slots) (set c.args.heads.now.items c.args.chain c.with_last.result) ≡ pushed c.args.chain c.args.key (seen (links_of c.args.side c.args.slots.now) c.args.heads.now.items))
joined g c =
    let side = c.args.side in
    let slots = c.args.slots.now in
    let heads = c.args.heads.now.items in
    let links = links_of side slots in
    let table = seen links heads in
    let lined = c.requires.lined in
    let was = c.index-head.result.now in
    let between = links_of side c.set_after.new.slots in
    let link : Link = record { home = c.args.chain + 1; before = was.last; after = 0 } in
    let left = push_leaves links between heads table c.args.chain c.args.key (c.args.key + 1) link was c.with_last.result lined.stored
    (omega (arith, c.requires.chain, lined.stored.chains)) (key_linked side slots heads lined c.args.key c.requires.there) c.requires.free
    (get_or_read heads c.args.chain was c.requires.chain c.index-head.ensures no_head)
    (add-one c.args.key) (ap (λ n. record { home = n; before = was.last; after = 0 }) (add-one c.args.chain))
    (same_length side slots c.set_after.new.slots c.set_after.ensures.values) c.set_after.ensures.linked c.with_last.ensures in
    lined_from side c.set_link.new.slots (set heads c.args.chain c.with_last.result) (set between c.args.key link) (pushed c.args.chain c.args.key table) c.set_link.ensures.links left
    (omega (arith, length-set heads c.args.chain c.with_last.result, lined.few))

pub returns-clause-lined : goal.returns-clause-lined
returns-clause-lined g c = (joined g c).0

pub returns-clause-pushed : goal.returns-clause-pushed
returns-clause-pushed g c = (joined g c).1
