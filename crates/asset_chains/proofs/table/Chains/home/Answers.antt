use Rattle.std.proofs.Common.{◌≡◌, sym, ap, ◌∙◌, arith}
use Rattle.std.proofs.lemmas.List.{get_or_read, get_or_past}
use Rattle.asset_chains.specs.declared.links.Link.{Link}
use Rattle.asset_chains.specs.Linked.{decoded, no_link, link_at, seen}
use Rattle.asset_chains.proofs.StoreLemmas.{stored_home}
use Rattle.asset_chains.proofs.table.Chains.home.Goals as goal

pub returns-then-key-len : goal.returns-then-key-len
returns-then-key-len c =
    let links = c.self.inside.links.items in
    let heads = c.self.inside.heads.items in
    let read : c.index.result.now ≡ link_at links c.args.key = get_or_read links c.args.key c.index.result.now (omega arith) c.index.ensures no_link in
    rw (← c.self.view_is) (c.decoded.ensures ∙ ap (λ (l : Link). decoded l.home) read ∙ stored_home links heads (seen links heads) c.self.invariant.stored c.args.key)

pub returns-else-key-len : goal.returns-else-key-len
returns-else-key-len c =
    let links = c.self.inside.links.items in
    let heads = c.self.inside.heads.items in
    let past : link_at links c.args.key ≡ no_link = get_or_past links c.args.key no_link (omega arith) in
    rw (← c.self.view_is) (sym (ap (λ (l : Link). decoded l.home) past) ∙ stored_home links heads (seen links heads) c.self.invariant.stored c.args.key)
