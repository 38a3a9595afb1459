use Rattle.std.proofs.Common.{length, refl, ap, ◌∙◌, arith}
use Rattle.asset_chains.specs.Chained.{Chained}
use Rattle.asset_chains.specs.Crossed.{lines}
use Rattle.asset_chains.proofs.Laws.{chain_more-chains}
use Rattle.asset_chains.proofs.CrossedLemmas.{grown_same, grown_then, grown_more}
use Rattle.asset_seats.proofs.room.add_lines.Goals as goal

pub lines-init : goal.lines-init
lines-init g c = record { grown = grown_same c.args.items.now c.args.items.now refl refl refl; same = refl; no_more = omega arith; others = refl }

pub lines-smaller : goal.lines-smaller
lines-smaller g c =
    let more = ap (λ (table : Chained). length table.chains) c.in-Ok.ensures.added ∙ chain_more-chains (lines c.args.side c.lines.items) in
    omega (arith, more, c.lines-test.true, c.count.ensures)

pub lines-preserved : goal.lines-preserved
lines-preserved g c = record {
  grown = grown_then c.args.items.now c.lines.items c.add.new.self c.lines.invariant.grown (grown_more c.args.side c.lines.items c.add.new.self c.in-Ok.ensures.added c.in-Ok.ensures.others c.in-Ok.ensures.items);
  same = c.in-Ok.ensures.items ∙ c.lines.invariant.same;
  no_more = omega (arith, ap (λ (table : Chained). length table.chains) c.in-Ok.ensures.added ∙ chain_more-chains (lines c.args.side c.lines.items), c.lines-test.true, c.count.ensures);
  others = c.in-Ok.ensures.others ∙ c.lines.invariant.others;
}

pub returns-clause-there : goal.returns-clause-there
returns-clause-there g c = omega arith

pub returns-clause-no_more : goal.returns-clause-no_more
returns-clause-no_more g c = omega arith
