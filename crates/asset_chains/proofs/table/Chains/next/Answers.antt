use Rattle.std.proofs.Common.{◌≡◌, ap, ◌∙◌, arith}
use Rattle.std.proofs.lemmas.List.{get_or_read}
use Rattle.asset_chains.specs.Chained.{chain_of, behind}
use Rattle.asset_chains.specs.declared.links.Link.{Link}
use Rattle.asset_chains.specs.Linked.{decoded, no_link, link_at, seen}
use Rattle.asset_chains.proofs.Laws.{key_within}
use Rattle.asset_chains.proofs.RowLemmas.{decoded_first}
use Rattle.asset_chains.proofs.StoreLemmas.{link_of}
use Rattle.asset_chains.proofs.table.Chains.next.Goals as goal

pub returns-then-key-len-clause-next : goal.returns-then-key-len-clause-next
returns-then-key-len-clause-next c =
    let links = c.self.inside.links.items in
    let heads = c.self.inside.heads.items in
    let read : c.index.result.now ≡ link_at links c.args.key = get_or_read links c.args.key c.index.result.now (omega arith) c.index.ensures no_link in
    rw (← c.self.view_is) (λ chain home.
    c.decoded.ensures ∙ ap (λ (l : Link). decoded l.after) (read ∙ link_of links heads (seen links heads) c.self.invariant.stored c.args.key chain home)
    ∙ decoded_first (behind c.args.key (chain_of (seen links heads) chain)))

pub returns-else-key-len-clause-next : goal.returns-else-key-len-clause-next
returns-else-key-len-clause-next c =
    let links = c.self.inside.links.items in
    let heads = c.self.inside.heads.items in
    rw (← c.self.view_is) (λ chain home.
    absurd (omega (arith, key_within c.args.key chain (seen links heads) home, c.self.invariant.stored.keys)))
