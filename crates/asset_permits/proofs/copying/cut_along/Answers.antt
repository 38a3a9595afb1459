use Rattle.std.proofs.Common.{◌≡◌, ℕ, Option, true, None, sym, ap, ◌∙◌, inl, inr}
use Rattle.slab.specs.Slab.{get}
use Rattle.asset_chains.specs.Chained.{chain_of, lists}
use Rattle.asset_chains.specs.declared.side.Side.TheVariants.{Row}
use Rattle.asset_marks.proofs.KeyWalkLemmas.{walk_starts, walk_steps, passed}
use Rattle.asset_permits.proofs.copying.cut_along.Goals as goal

pub keys-init : goal.keys-init
keys-init c =
    let start = walk_starts c.args.permits.now.rows c.args.seat (c.laws.ensures.crossed.sound Row) c.first-next.result c.first-next.ensures in
    record { on = start.0; kept = λ test there. there; made = λ test there. inl there; all = λ test k d there is inside passes. absurd (start.1 k there) }

pub keys-smaller : goal.keys-smaller
keys-smaller c = (walk_steps c.args.permits.now.rows c.args.seat c.in-Some.key (c.laws.ensures.crossed.sound Row) _ c.next-next.result c.in-Some.is c.keys.invariant.on (c.next-next.ensures.next c.args.seat)).2

pub keys-preserved : goal.keys-preserved
keys-preserved c =
    let home = c.keys.invariant.on c.in-Some.key c.in-Some.is in
    let stepped = walk_steps c.args.permits.now.rows c.args.seat c.in-Some.key (c.laws.ensures.crossed.sound Row) _ c.next-next.result c.in-Some.is c.keys.invariant.on (c.next-next.ensures.next c.args.seat) in
    record {
      on = stepped.0;
      kept = λ test there. c.cut_at.ensures.kept test (c.keys.invariant.kept test there);
      made = λ test there. elim (c.cut_at.ensures.made test there) [
        | inl before ↦ c.keys.invariant.made test before
        | inr one ↦ inr (c.in-Some.key, one.0, home, one.1, one.2, one.3)
      ];
      all = λ test k d there is inside passes. elim (stepped.1 k there) [
        | inl here ↦ c.in_ok-cut_at.ensures.all test d (ap (get c.args.permits.now.items) (sym here) ∙ is) inside passes
        | inr before ↦ c.cut_at.ensures.kept test (c.keys.invariant.all test k d before is inside passes)
      ];
    }

pub returns-clause-all : goal.returns-clause-all
returns-clause-all c = λ test k d home is inside passes.
    let listed : lists (passed None (chain_of c.args.permits.now.rows c.args.seat)) k ≡ true = (c.laws.ensures.crossed.sound Row).listed c.args.seat k home in
    c.keys.invariant.all test k d (ap (λ (o : Option ℕ). lists (passed o (chain_of c.args.permits.now.rows c.args.seat)) k) c.in_default.is ∙ listed) is inside passes
