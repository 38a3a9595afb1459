use Rattle.std.proofs.Common.{◌≡◌, ◌+◌, ◌<◌, length, set, ap, ◌∙◌, arith, add-one}
use Rattle.std.specs.Prelude.{None}
use Rattle.std.proofs.lemmas.List.{length-set}
use Rattle.asset_chains.specs.Chained.{chain_of, home_of, pushed}
use Rattle.asset_chains.specs.declared.links.Link.{Link}
use Rattle.asset_chains.specs.declared.heads.Head.{Head}
use Rattle.asset_chains.specs.Linked.{seen, Stores}
use Rattle.asset_chains.proofs.StoreLemmas.{seen_is, push_leaves, read_head, valid_from, last_within, listed_within, count_fits}
use Rattle.asset_chains.proofs.table.Chains.push.Goals as goal

pub set_after-requires : goal.set_after-requires
set_after-requires c =
    let links = c.self.inside.links.items in
    let heads = c.self.inside.heads.items in
    let table = seen links heads in
    let stores = c.self.invariant.stored in
    let read = read_head links heads table stores c.args.chain c.index-head.result.now (rw (← c.self.view_is) at c.requires.chain) c.index-head.ensures in
    omega (
      arith,
      ap (λ (h : Head). h.last) (read ∙ stores.ends c.args.chain),
      last_within (chain_of table c.args.chain) (length links) (listed_within links heads table stores c.args.chain),
    )

pub with_last-requires : goal.with_last-requires
with_last-requires c =
    let links = c.self.inside.links.items in
    let heads = c.self.inside.heads.items in
    let table = seen links heads in
    let stores = c.self.invariant.stored in
    let chain : c.args.chain < length table.chains = rw (← c.self.view_is) at c.requires.chain in
    let key : c.args.key < length table.homes = rw (← c.self.view_is) at c.requires.key in
    let free : home_of table c.args.key ≡ None = rw (← c.self.view_is) at c.requires.free in
    let read = read_head links heads table stores c.args.chain c.index-head.result.now chain c.index-head.ensures in
    omega (arith, ap (λ (h : Head). h.count) (read ∙ stores.ends c.args.chain), count_fits links heads table stores c.args.chain c.args.key chain key free, c.self.invariant.few_keys)

-- what is stored then
left : (c : goal.After-self-2-1) → Stores (set c.set_after.new.links.items c.args.key (record { home = c.args.chain + 1; before = c.index-head.result.now.last; after = 0 })) (set c.self.inside.heads.items c.args.chain c.with_last.result) (pushed c.args.chain c.args.key (seen c.self.inside.links.items c.self.inside.heads.items))
left c =
    let links = c.self.inside.links.items in
    let heads = c.self.inside.heads.items in
    let table = seen links heads in
    let stores = c.self.invariant.stored in
    let chain : c.args.chain < length table.chains = rw (← c.self.view_is) at c.requires.chain in
    let key : c.args.key < length table.homes = rw (← c.self.view_is) at c.requires.key in
    let free : home_of table c.args.key ≡ None = rw (← c.self.view_is) at c.requires.free in
    let was = c.index-head.result.now in
    let link : Link = record { home = c.args.chain + 1; before = was.last; after = 0 } in
    push_leaves links c.set_after.new.links.items heads table c.args.chain c.args.key (c.args.key + 1) link was c.with_last.result stores chain key free
    (read_head links heads table stores c.args.chain was chain c.index-head.ensures)
    (add-one c.args.key) (ap (λ n. record { home = n; before = was.last; after = 0 }) (add-one c.args.chain)) c.set_after.ensures.size c.set_after.ensures.linked c.with_last.ensures

pub invariant_of-self : goal.invariant_of-self
invariant_of-self c =
    let between = c.set_after.new.links.items in
    let heads = c.self.inside.heads.items in
    let link : Link = record { home = c.args.chain + 1; before = c.index-head.result.now.last; after = 0 } in
    valid_from (set between c.args.key link) (set heads c.args.chain c.with_last.result) (pushed c.args.chain c.args.key (seen c.self.inside.links.items heads)) (left c)
    (omega (arith, length-set between c.args.key link, c.set_after.ensures.size, c.self.invariant.few_keys))
    (omega (arith, length-set heads c.args.chain c.with_last.result, c.self.invariant.few_chains))

pub returns : goal.returns
returns c =
    let heads = c.self.inside.heads.items in
    let link : Link = record { home = c.args.chain + 1; before = c.index-head.result.now.last; after = 0 } in
    seen_is (set c.set_after.new.links.items c.args.key link) (set heads c.args.chain c.with_last.result) (pushed c.args.chain c.args.key (seen c.self.inside.links.items heads)) (left c) ∙ ap (pushed c.args.chain c.args.key) c.self.view_is
