use Rattle.std.proofs.Common.{rules}
use Rattle.asset_runner.proofs.order.put.Goals as goal

pub returns-then-place-len : goal.returns-then-place-len
returns-then-place-len g c = search rules
