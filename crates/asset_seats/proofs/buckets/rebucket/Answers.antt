use Rattle.std.proofs.Common.{arith}
use Rattle.std.proofs.lemmas.Grind.{common_steps}
use Rattle.asset_seats.proofs.buckets.rebucket.Goals as goal

pub returns-then-chain-gt0-clause-home : goal.returns-then-chain-gt0-clause-home
returns-then-chain-gt0-clause-home c = grind (arith, common_steps)
