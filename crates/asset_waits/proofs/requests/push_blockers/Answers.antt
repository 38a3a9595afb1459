use Rattle.std.proofs.Common.{◌≡◌, ◌<◌, length, arith}
use Rattle.asset_names.specs.Steps.{applied}
use Rattle.asset_waits.proofs.TextLemmas.{nobody_blocks, somebody_blocks}
use Rattle.asset_waits.proofs.requests.push_blockers.Goals as goal

pub returns-then-is_empty : goal.returns-then-is_empty
returns-then-is_empty c =
    let none : length c.args.names.now ≡ 0 = grind (arith, c.is_empty.ensures, c.if-is_empty.true) in
    rw (nobody_blocks (applied c.args.core.now.history.entries) c.args.t.0 c.args.x.0 c.args.op c.args.names.now none) c.push_nobody.ensures

pub returns-else-is_empty : goal.returns-else-is_empty
returns-else-is_empty c =
    let some : 0 < length c.args.names.now = grind (arith, c.is_empty.ensures, c.if-is_empty.false) in
    rw (somebody_blocks (applied c.args.core.now.history.entries) c.args.t.0 c.args.x.0 c.args.op c.args.names.now some) c.push_each.ensures
