use Rattle.std.proofs.Common.{◌-◌, set, sym, ap, ◌∙◌, arith}
use Rattle.std.proofs.lemmas.List.{get_or_read, length-set}
use Rattle.asset_chains.specs.Chained.{unlinked}
use Rattle.asset_chains.specs.Linked.{no_link, seen, Stores}
use Rattle.asset_chains.proofs.Laws.{unlinks_nothing}
use Rattle.asset_chains.proofs.StoreLemmas.{seen_is, unlink_leaves, read_head, read_link, valid_from, stored_home_none, before_within, after_within, count_some}
use Rattle.asset_chains.proofs.table.Chains.unlink.Goals as goal

pub index-head-requires : goal.index-head-requires
index-head-requires c =
    let links = c.self.inside.links.items in
    let heads = c.self.inside.heads.items in
    let table = seen links heads in
    let stores = c.self.invariant.stored in
    let link = c.index-link.result.now in
    let at = read_link links heads table stores c.args.key link (rw (← c.self.view_is) at c.requires) c.index-link.ensures c.if-link-gt0.true in
    omega (arith, at.2, stores.chains)

pub set_after-requires : goal.set_after-requires
set_after-requires c =
    let links = c.self.inside.links.items in
    let heads = c.self.inside.heads.items in
    let table = seen links heads in
    let stores = c.self.invariant.stored in
    let link = c.index-link.result.now in
    let at = read_link links heads table stores c.args.key link (rw (← c.self.view_is) at c.requires) c.index-link.ensures c.if-link-gt0.true in
    before_within links heads table stores c.args.key (link.home - 1) link at.0 at.1

pub set_before-requires : goal.set_before-requires
set_before-requires c =
    let links = c.self.inside.links.items in
    let heads = c.self.inside.heads.items in
    let table = seen links heads in
    let stores = c.self.invariant.stored in
    let link = c.index-link.result.now in
    let at = read_link links heads table stores c.args.key link (rw (← c.self.view_is) at c.requires) c.index-link.ensures c.if-link-gt0.true in
    omega (arith, after_within links heads table stores c.args.key (link.home - 1) link at.0 at.1, c.set_after.ensures.size)

pub without_key-requires : goal.without_key-requires
without_key-requires c =
    let links = c.self.inside.links.items in
    let heads = c.self.inside.heads.items in
    let table = seen links heads in
    let stores = c.self.invariant.stored in
    let link = c.index-link.result.now in
    let at = read_link links heads table stores c.args.key link (rw (← c.self.view_is) at c.requires) c.index-link.ensures c.if-link-gt0.true in
    let head = c.index-head.result.now in
    count_some links heads table stores c.args.key (link.home - 1) head (read_head links heads table stores (link.home - 1) head at.2 c.index-head.ensures) at.1

pub index_mut-requires-then-link-gt0 : goal.index_mut-requires-then-link-gt0
index_mut-requires-then-link-gt0 c =
    let links = c.self.inside.links.items in
    let heads = c.self.inside.heads.items in
    let table = seen links heads in
    let stores = c.self.invariant.stored in
    let link = c.index-link.result.now in
    let at = read_link links heads table stores c.args.key link (rw (← c.self.view_is) at c.requires) c.index-link.ensures c.if-link-gt0.true in
    omega (arith, at.2, stores.chains)

-- what is stored then
left : (c : goal.After-self-then-link-gt0-1) → Stores (set c.set_before.new.links.items c.args.key no_link) (set c.self.inside.heads.items (c.index-link.result.now.home - 1) c.without_key.result) (unlinked c.args.key (seen c.self.inside.links.items c.self.inside.heads.items))
left c =
    let links = c.self.inside.links.items in
    let heads = c.self.inside.heads.items in
    let table = seen links heads in
    let stores = c.self.invariant.stored in
    let link = c.index-link.result.now in
    let at = read_link links heads table stores c.args.key link (rw (← c.self.view_is) at c.requires) c.index-link.ensures c.if-link-gt0.true in
    let was = c.index-head.result.now in
    unlink_leaves links c.set_after.new.links.items c.set_before.new.links.items heads table (link.home - 1) c.args.key link was c.without_key.result stores at.1 at.0
    (read_head links heads table stores (link.home - 1) was at.2 c.index-head.ensures)
    (c.set_before.ensures.size ∙ c.set_after.ensures.size) c.set_after.ensures.linked c.set_before.ensures.linked c.without_key.ensures

pub invariant_of-self : goal.invariant_of-self
invariant_of-self c =
    let links = c.self.inside.links.items in
    let heads = c.self.inside.heads.items in
    let chain = c.index-link.result.now.home - 1 in
    let second = c.set_before.new.links.items in
    valid_from (set second c.args.key no_link) (set heads chain c.without_key.result) (unlinked c.args.key (seen links heads)) (left c)
    (omega (arith, length-set second c.args.key no_link, c.set_before.ensures.size, c.set_after.ensures.size, c.self.invariant.few_keys))
    (omega (arith, length-set heads chain c.without_key.result, c.self.invariant.few_chains))

pub returns-then-link-gt0 : goal.returns-then-link-gt0
returns-then-link-gt0 c =
    let links = c.self.inside.links.items in
    let heads = c.self.inside.heads.items in
    seen_is (set c.set_before.new.links.items c.args.key no_link) (set heads (c.index-link.result.now.home - 1) c.without_key.result) (unlinked c.args.key (seen links heads)) (left c) ∙ ap (unlinked c.args.key) c.self.view_is

pub returns-else-link-gt0 : goal.returns-else-link-gt0
returns-else-link-gt0 c =
    let links = c.self.inside.links.items in
    let heads = c.self.inside.heads.items in
    let table = seen links heads in
    let stores = c.self.invariant.stored in
    let key = rw (← c.self.view_is) at c.requires in
    let link = c.index-link.result.now in
    let read = get_or_read links c.args.key link (omega (arith, key, stores.keys)) c.index-link.ensures no_link in
    rw (← c.self.view_is) (sym (unlinks_nothing c.args.key table (stored_home_none links heads table stores c.args.key link read (omega arith))))
