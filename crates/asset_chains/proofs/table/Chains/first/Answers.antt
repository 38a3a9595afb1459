use Rattle.std.proofs.Common.{arith}
use Rattle.std.proofs.lemmas.Grind.{common_steps}
use Rattle.asset_chains.proofs.table.Chains.first.Goals as goal

pub returns-then-chain-len : goal.returns-then-chain-len
returns-then-chain-len c = grind (arith, common_steps)
