use Rattle.std.proofs.Common.{◌≡◌, ◌-◌, set, ◌∙◌, arith}
use Rattle.std.proofs.lemmas.List.{get_or_read, length-set}
use Rattle.asset_chains.specs.Chained.{unlinked}
use Rattle.asset_chains.specs.Linked.{no_head, no_link, seen}
use Rattle.asset_chains.specs.Slots.{links_of, IsLined}
use Rattle.asset_chains.proofs.StoreLemmas.{unlink_leaves, count_some}
use Rattle.asset_chains.proofs.SlotLemmas.{same_length, there_kept, there_from, home_positive, leaving, before_there, after_there, lined_from}
use Rattle.asset_chains.proofs.lines.leave.Goals as goal

pub overflow_sub-chain : goal.overflow_sub-chain
overflow_sub-chain g c =
    (leaving c.args.side c.args.slots.now c.args.heads.now.items c.requires.lined c.args.key c.link-was.result c.link-was.ensures c.requires.there).0

pub index-head-requires : goal.index-head-requires
index-head-requires g c =
    omega (arith, (leaving c.args.side c.args.slots.now c.args.heads.now.items c.requires.lined c.args.key c.link-was.result c.link-was.ensures c.requires.there).2)

pub set_after-requires : goal.set_after-requires
set_after-requires g c =
    let at = leaving c.args.side c.args.slots.now c.args.heads.now.items c.requires.lined c.args.key c.link-was.result c.link-was.ensures c.requires.there in
    before_there c.args.side c.args.slots.now c.args.heads.now.items c.requires.lined c.args.key (c.link-was.result.home - 1) c.link-was.result c.link-was.ensures at.1

pub set_before-requires : goal.set_before-requires
set_before-requires g c =
    let at = leaving c.args.side c.args.slots.now c.args.heads.now.items c.requires.lined c.args.key c.link-was.result c.link-was.ensures c.requires.there in
    λ some.
    there_kept c.args.slots.now c.set_after.new.slots c.set_after.ensures.values (c.link-was.result.after - 1)
    ∙ after_there c.args.side c.args.slots.now c.args.heads.now.items c.requires.lined c.args.key (c.link-was.result.home - 1) c.link-was.result c.link-was.ensures at.1 some

pub set_link-requires : goal.set_link-requires
set_link-requires g c =
    there_kept c.args.slots.now c.set_before.new.slots (c.set_before.ensures.values ∙ c.set_after.ensures.values) c.args.key
    ∙ there_from c.args.side c.args.slots.now c.args.key (home_positive c.args.side c.args.slots.now c.args.heads.now.items c.requires.lined c.args.key c.requires.there)

pub without_key-requires : goal.without_key-requires
without_key-requires g c =
    let heads = c.args.heads.now.items in
    let links = links_of c.args.side c.args.slots.now in
    let at = leaving c.args.side c.args.slots.now heads c.requires.lined c.args.key c.link-was.result c.link-was.ensures c.requires.there in
    let head = c.index-head.result.now in
    count_some links heads (seen links heads) c.requires.lined.stored c.args.key (c.link-was.result.home - 1) head
    (get_or_read heads (c.link-was.result.home - 1) head at.2 c.index-head.ensures no_head) at.1

pub index_mut-requires : goal.index_mut-requires
index_mut-requires g c =
    omega (arith, (leaving c.args.side c.args.slots.now c.args.heads.now.items c.requires.lined c.args.key c.link-was.result c.link-was.ensures c.requires.there).2)

-- what is stored then, and what is seen
left : (g : _) (c : goal.After-heads-1 g)
    → IsLined c.args.side c.set_link.new.slots (set c.args.heads.now.items (c.link-was.result.home - 1) c.without_key.result)
    × (seen (links_of c.args.side c.set_link.new.slots) (set c.args.heads.now.items (c.link-was.result.home - 1) c.without_key.result) ≡ unlinked c.args.key (seen (links_of c.args.side c.args.slots.now) c.args.heads.now.items))
left g c =
    let side = c.args.side in
    let slots = c.args.slots.now in
    let heads = c.args.heads.now.items in
    let links = links_of side slots in
    let table = seen links heads in
    let lined = c.requires.lined in
    let was = c.link-was.result in
    let chain = was.home - 1 in
    let at = leaving side slots heads lined c.args.key was c.link-was.ensures c.requires.there in
    let second = links_of side c.set_before.new.slots in
    let stores = unlink_leaves links (links_of side c.set_after.new.slots) second heads table chain c.args.key was c.index-head.result.now c.without_key.result lined.stored at.1 c.link-was.ensures
    (get_or_read heads chain c.index-head.result.now at.2 c.index-head.ensures no_head)
    (same_length side slots c.set_before.new.slots (c.set_before.ensures.values ∙ c.set_after.ensures.values)) c.set_after.ensures.linked c.set_before.ensures.linked c.without_key.ensures in
    lined_from side c.set_link.new.slots (set heads chain c.without_key.result) (set second c.args.key no_link) (unlinked c.args.key table) c.set_link.ensures.links stores
    (omega (arith, length-set heads chain c.without_key.result, lined.few))

pub returns-clause-lined : goal.returns-clause-lined
returns-clause-lined g c = (left g c).0

pub returns-clause-unlinked : goal.returns-clause-unlinked
returns-clause-unlinked g c = (left g c).1
