use Rattle.std.proofs.Common.{ap}
use Rattle.asset_chains.specs.declared.heads.Head.{Head}
use Rattle.asset_chains.proofs.crossed.Crossed.len.Goals as goal

pub returns : goal.returns
returns g c = ap (λ (h : Head). h.count) c.head.ensures
