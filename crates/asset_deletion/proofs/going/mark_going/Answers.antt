use Rattle.std.proofs.Common.{sym}
use Rattle.asset_deletion.proofs.WithoutLemmas.{marked_one, unnamed_takes, undead_takes}
use Rattle.asset_deletion.proofs.going.mark_going.Goals as goal

pub returns-in-Some-clause-marked : goal.returns-in-Some-clause-marked
returns-in-Some-clause-marked c =
    let at = sym c.in-Some.ensures.number in
    marked_one c.args.groups.now c.args.going.now.items c.args.t c.in-Some.number at (sym c.if-is_dead.ensures.dead) (c.requires c.args.t.0 c.in-Some.number at)

pub returns-in_default-clause-marked : goal.returns-in_default-clause-marked
returns-in_default-clause-marked c = unnamed_takes c.args.groups.now c.args.going.now.items c.args.t (sym c.in_default.ensures.number)

pub returns-else-is_dead-clause-marked : goal.returns-else-is_dead-clause-marked
returns-else-is_dead-clause-marked c = undead_takes c.args.groups.now c.args.going.now.items c.args.t (sym c.if-is_dead.ensures.dead)
