use Rattle.std.proofs.Common.{◌≡◌, ap, ◌∙◌, arith}
use Rattle.std.proofs.lemmas.List.{get_or_read}
use Rattle.asset_chains.specs.Chained.{chain_of}
use Rattle.asset_chains.specs.declared.heads.Head.{Head}
use Rattle.asset_chains.specs.Linked.{decoded, no_head, head_at, seen}
use Rattle.asset_chains.proofs.RowLemmas.{decoded_last}
use Rattle.asset_chains.proofs.table.Chains.last.Goals as goal

pub returns-then-chain-len : goal.returns-then-chain-len
returns-then-chain-len c =
    let links = c.self.inside.links.items in
    let heads = c.self.inside.heads.items in
    let read : c.index.result.now ≡ head_at heads c.args.chain = get_or_read heads c.args.chain c.index.result.now (omega arith) c.index.ensures no_head in
    rw (← c.self.view_is) (c.decoded.ensures ∙ ap (λ (h : Head). decoded h.last) (read ∙ c.self.invariant.stored.ends c.args.chain) ∙ decoded_last (chain_of (seen links heads) c.args.chain))
