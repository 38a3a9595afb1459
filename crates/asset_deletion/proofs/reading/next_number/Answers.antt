use Rattle.std.proofs.Common.{◌≡◌, get_or, arith}
use Rattle.std.proofs.lemmas.Grind.{common_steps}
use Rattle.asset_deletion.proofs.ReadLemmas.{counted_before, counted_first}
use Rattle.asset_deletion.proofs.reading.next_number.Goals as goal

pub returns-then-label-node-clause-counted : goal.returns-then-label-node-clause-counted
returns-then-label-node-clause-counted c =
    counted_before c.args.kept.now c.laws.ensures c.args.node c.requires.node c.args.is_dead.now.items (omega (arith, c.if-label-node.true, c.label-label.ensures.label)) c.requires.counted

pub returns-clause-counted : goal.returns-clause-counted
returns-clause-counted c =
    let own : get_or c.args.kept.now.labels c.args.node 0 ≡ c.args.node = omega (arith, c.if-label-node.false, c.label-label.ensures.label, c.label-label.ensures.least) in
    rw (c.in_ok-push.ensures.items, c.is_flagged.ensures) (counted_first c.args.kept.now c.laws.ensures c.args.node c.requires.node c.args.is_dead.now.items own c.requires.counted)

pub returns-then-label-node-clause-number : goal.returns-then-label-node-clause-number
returns-then-label-node-clause-number c = grind (arith, common_steps)
