use Rattle.std.proofs.Common.{sym, ap, ◌∙◌, inl, inr}
use Rattle.slab.specs.Slab.{get}
use Rattle.asset_chains.specs.Crossed.{lines}
use Rattle.asset_marks.proofs.KeyWalkLemmas.{walk_starts, walk_steps}
use Rattle.asset_permits.proofs.finding.find.Goals as goal

pub keys-init : goal.keys-init
keys-init c =
    let start = walk_starts (lines c.args.side c.args.permits.now) c.args.seat (c.laws.ensures.crossed.sound c.args.side) c.first-next.result c.first-next.ensures in
    record { on = start.0; absent = λ k there is. start.1 k there }

pub keys-smaller : goal.keys-smaller
keys-smaller c = (walk_steps (lines c.args.side c.args.permits.now) c.args.seat c.in-Some.key (c.laws.ensures.crossed.sound c.args.side) _ c.next-next.result c.in-Some.is c.keys.invariant.on (c.next-next.ensures.next c.args.seat)).2

pub keys-preserved : goal.keys-preserved
keys-preserved c =
    let stepped = walk_steps (lines c.args.side c.args.permits.now) c.args.seat c.in-Some.key (c.laws.ensures.crossed.sound c.args.side) _ c.next-next.result c.in-Some.is c.keys.invariant.on (c.next-next.ensures.next c.args.seat) in
    record {
      on = stepped.0;
      absent = λ k there is. elim (stepped.1 k there) [
        | inl here ↦ c.is_at.ensures.absent c.if-is_at.false (ap (get c.args.permits.now.items) (sym here) ∙ is)
        | inr before ↦ c.keys.invariant.absent k before is
      ];
    }
