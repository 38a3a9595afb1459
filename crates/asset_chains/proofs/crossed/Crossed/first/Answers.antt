use Rattle.std.proofs.Common.{ap, ◌∙◌}
use Rattle.asset_chains.specs.Chained.{chain_of}
use Rattle.asset_chains.specs.declared.heads.Head.{Head}
use Rattle.asset_chains.specs.Linked.{decoded}
use Rattle.asset_chains.specs.Crossed.{lines}
use Rattle.asset_chains.proofs.RowLemmas.{decoded_first}
use Rattle.asset_chains.proofs.crossed.Crossed.first.Goals as goal

pub returns : goal.returns
returns g c = c.decoded.ensures ∙ ap (λ (h : Head). decoded h.first) c.head.ensures ∙ decoded_first (chain_of (lines c.args.side c.args.self.now) c.args.line)
