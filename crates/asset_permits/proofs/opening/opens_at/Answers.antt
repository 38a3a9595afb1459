use Rattle.std.proofs.Common.{◌≡◌, ℕ, Option, true, None, sym, ap, ◌∙◌, inl, inr}
use Rattle.slab.specs.Slab.{get}
use Rattle.asset_chains.specs.Chained.{chain_of, lists}
use Rattle.asset_chains.specs.declared.side.Side.TheVariants.{Row}
use Rattle.asset_marks.proofs.KeyWalkLemmas.{walk_starts, walk_steps, passed}
use Rattle.asset_permits.proofs.opening.opens_at.Goals as goal

pub keys-init : goal.keys-init
keys-init c =
    let start = walk_starts c.args.permits.now.rows c.args.seat (c.laws.ensures.crossed.sound Row) c.first-next.result c.first-next.ensures in
    record { on = start.0; closed = λ k d there is. absurd (start.1 k there) }

pub keys-smaller : goal.keys-smaller
keys-smaller c = (walk_steps c.args.permits.now.rows c.args.seat c.in-Some.key (c.laws.ensures.crossed.sound Row) _ c.next-next.result c.in-Some.is c.keys.invariant.on (c.next-next.ensures.next c.args.seat)).2

pub keys-preserved : goal.keys-preserved
keys-preserved c =
    let stepped = walk_steps c.args.permits.now.rows c.args.seat c.in-Some.key (c.laws.ensures.crossed.sound Row) _ c.next-next.result c.in-Some.is c.keys.invariant.on (c.next-next.ensures.next c.args.seat) in
    record {
      on = stepped.0;
      closed = λ k d there is. elim (stepped.1 k there) [
        | inl here ↦ c.is_open_at.ensures.closed c.if-is_open_at.false d (ap (get c.args.permits.now.items) (sym here) ∙ is)
        | inr before ↦ c.keys.invariant.closed k d before is
      ];
    }

pub returns-clause-closed : goal.returns-clause-closed
returns-clause-closed c = λ closed k d home is.
    let listed : lists (passed None (chain_of c.args.permits.now.rows c.args.seat)) k ≡ true = (c.laws.ensures.crossed.sound Row).listed c.args.seat k home in
    c.keys.invariant.closed k d (ap (λ (o : Option ℕ). lists (passed o (chain_of c.args.permits.now.rows c.args.seat)) k) c.in_default.is ∙ listed) is
