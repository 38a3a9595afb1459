use Rattle.std.proofs.Common.{arith}
use Rattle.asset_chains.specs.Chained.{chain_of}
use Rattle.asset_records.specs.Handed.{picked_at}
use Rattle.asset_records.proofs.PassLemmas.{same_handed, goes_along, goes_listed, not_empty}
use Rattle.asset_records.proofs.handing.hand_over_picked.Goals as goal

pub returns-in-Some-clause-handed : goal.returns-in-Some-clause-handed
returns-in-Some-clause-handed g c =
    same_handed (g.P.Picks.picks c.args.picks.now) c.in-Some.object c.args.from c.args.to.at c.args.to.t c.args.records.now c.hand_over_row.new.records c.laws.ensures.crossed c.in-Some.ensures.only c.hand_over_row.ensures.handed

pub returns-in-Some-clause-counted : goal.returns-in-Some-clause-counted
returns-in-Some-clause-counted g c = λ k there.
    let among = goes_along (g.P.Picks.picks c.args.picks.now) c.in-Some.object c.args.from c.args.to.at c.args.to.t c.args.records.now c.hand_over_row.new.records c.laws.ensures.crossed c.in-Some.ensures.only k there in
    omega (arith, not_empty (chain_of c.args.records.now.rows c.in-Some.object) k among, c.hand_over_row.ensures.counted)

pub returns-in-None-clause-counted : goal.returns-in-None-clause-counted
returns-in-None-clause-counted g c = λ k there.
    let keys = chain_of c.args.records.now.columns c.args.from in
    omega (arith, not_empty keys k (goes_listed keys (picked_at (g.P.Picks.picks c.args.picks.now) c.args.records.now) k there), c.hand_over_along.ensures.counted)
