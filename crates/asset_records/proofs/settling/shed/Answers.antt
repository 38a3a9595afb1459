use Rattle.std.proofs.Common.{is_some, ap, sym, ◌∙◌, arith}
use Rattle.asset_chains.proofs.Laws.{chain_at_first}
use Rattle.asset_chains.specs.declared.side.Side.TheVariants.{Row}
use Rattle.asset_records.proofs.SettleLemmas.{shedding_steps, shedding_ends, nobodys_is, none_first, somebodys_first}
use Rattle.asset_records.proofs.ThroughLemmas.{shorter, no_more}
use Rattle.asset_records.proofs.settling.shed.Goals as goal

pub returns-then-is_somebodys-clause-sheds : goal.returns-then-is_somebodys-clause-sheds
returns-then-is_somebodys-clause-sheds c = shedding_ends c.args.object c.args.records.now c.first.records c.first.invariant.shedding c.first.invariant.crossed

pub returns-clause-sheds : goal.returns-clause-sheds
returns-clause-sheds c = shedding_ends c.args.object c.args.records.now c.first.records c.first.invariant.shedding c.first.invariant.crossed

pub first-smaller : goal.first-smaller
first-smaller c = omega (arith, shorter c.first.records.rows c.drop_at.new.records.rows c.in-Some.key c.args.object (c.first.invariant.crossed.sound Row) (sym c.in-Some.ensures) c.drop_at.ensures.chains)

pub first-preserved : goal.first-preserved
first-preserved c =
    let there = sym (c.first.invariant.crossed.placed Row c.in-Some.key) ∙ ap is_some (chain_at_first c.in-Some.key c.args.object c.first.records.rows (c.first.invariant.crossed.sound Row) (sym c.in-Some.ensures)).0 in
    let lasting = nobodys_is c.first.records.items c.in-Some.key there (sym c.is_somebodys.ensures ∙ c.if-is_somebodys.false) in
    record {
      crossed = c.laws-in-Some.ensures.crossed;
      shedding = shedding_steps c.args.object c.in-Some.key lasting.0 c.args.records.now c.first.records c.drop_at.new.records c.first.invariant.shedding c.first.invariant.crossed (sym c.in-Some.ensures) lasting.1
          c.drop_at.ensures.chains c.drop_at.ensures.records c.drop_at.ensures.many;
      tied = λ seats tied. c.drop_at.ensures.tied seats (c.first.invariant.tied seats tied);
      few = no_more c.drop_at.ensures.few c.first.invariant.few;
      room = λ _. c.drop_at.ensures.room;
    }

pub returns-then-is_somebodys-clause-all : goal.returns-then-is_somebodys-clause-all
returns-then-is_somebodys-clause-all c = somebodys_first c.first.records c.args.object c.in-Some.key (sym c.in-Some.ensures) (sym c.is_somebodys.ensures ∙ c.if-is_somebodys.true)

pub returns-clause-all : goal.returns-clause-all
returns-clause-all c = none_first c.first.records c.args.object (sym c.in_default.ensures)

pub drop_at-requires : goal.drop_at-requires
drop_at-requires c = record { there = sym (c.first.invariant.crossed.placed Row c.in-Some.key) ∙ ap is_some (chain_at_first c.in-Some.key c.args.object c.first.records.rows (c.first.invariant.crossed.sound Row) (sym c.in-Some.ensures)).0 }
