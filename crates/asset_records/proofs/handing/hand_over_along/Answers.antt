use Rattle.std.proofs.Common.{ℕ, Option, length, ap, subst, arith}
use Rattle.asset_chains.specs.Chained.{chain_of}
use Rattle.asset_chains.specs.declared.side.Side.TheVariants.{Column}
use Rattle.asset_chains.proofs.Walks.{from_key}
use Rattle.asset_records.specs.Handed.{picked_at}
use Rattle.asset_records.proofs.WalkLemmas.{walk_ends, walk_least, walk_visits}
use Rattle.asset_records.proofs.PassLemmas.{IsHanding, handing_starts, handing_home, handing_there, handing_smaller, handing_steps, handing_within}
use Rattle.asset_records.proofs.handing.hand_over_along.Goals as goal

pub keys-init : goal.keys-init
keys-init g c = record {
  crossed = c.laws.ensures.crossed;
  handing = handing_starts (g.P.Picks.picks c.args.picks.now) c.args.from c.args.to.at c.args.to.t c.args.records.now c.first-next.result c.first-next.ensures;
}

pub pass_on-visits-requires-clause-there : goal.pass_on-visits-requires-clause-there
pass_on-visits-requires-clause-there g c =
    let picks = g.P.Picks.picks c.args.picks.now in
    let is = subst (λ (o : Option ℕ). IsHanding picks c.args.from c.args.to.at c.args.to.t c.args.records.now c.keys.records o c.keys.visits) c.in-Some.is c.keys.invariant.handing in
    handing_there picks c.args.from c.args.to.at c.args.to.t c.args.records.now c.keys.records c.in-Some.key c.keys.visits is c.laws.ensures.crossed c.keys.invariant.crossed

pub pass_on-visits-requires-clause-seat : goal.pass_on-visits-requires-clause-seat
pass_on-visits-requires-clause-seat g c = omega (arith, c.requires.seat, c.keys.invariant.handing.walk.hands.many)

pub keys-smaller : goal.keys-smaller
keys-smaller g c =
    let picks = g.P.Picks.picks c.args.picks.now in
    let is = subst (λ (o : Option ℕ). IsHanding picks c.args.from c.args.to.at c.args.to.t c.args.records.now c.keys.records o c.keys.visits) c.in-Some.is c.keys.invariant.handing in
    let home = handing_home picks c.args.from c.args.to.at c.args.to.t c.args.records.now c.keys.records c.in-Some.key c.keys.visits is c.laws.ensures.crossed c.keys.invariant.crossed in
    let less = handing_smaller picks c.args.from c.args.to.at c.args.to.t c.args.records.now c.keys.records c.in-Some.key c.keys.visits is c.laws.ensures.crossed c.keys.invariant.crossed c.next-next.result (c.next-next.ensures.next c.args.from home) in
    omega (arith, less, ap (λ (o : Option ℕ). length (from_key o (chain_of c.args.records.now.columns c.args.from))) c.in-Some.is)

pub keys-preserved : goal.keys-preserved
keys-preserved g c =
    let picks = g.P.Picks.picks c.args.picks.now in
    let is = subst (λ (o : Option ℕ). IsHanding picks c.args.from c.args.to.at c.args.to.t c.args.records.now c.keys.records o c.keys.visits) c.in-Some.is c.keys.invariant.handing in
    let home = handing_home picks c.args.from c.args.to.at c.args.to.t c.args.records.now c.keys.records c.in-Some.key c.keys.visits is c.laws.ensures.crossed c.keys.invariant.crossed in
    record {
      crossed = c.laws-in-Some.ensures.crossed;
      handing = handing_steps picks c.args.from c.args.to.at c.args.to.t c.args.records.now c.keys.records c.in-Some.key c.keys.visits is c.laws.ensures.crossed c.keys.invariant.crossed
          c.pass_on-visits.new.records c.next-next.result _ (c.next-next.ensures.next c.args.from home) (omega (arith, c.pass_on-visits.ensures.counted)) (omega (arith, c.pass_on-visits.ensures.few))
          c.requires.another c.pass_on-visits.ensures.picked c.pass_on-visits.ensures.other;
    }

pub returns-clause-handed : goal.returns-clause-handed
returns-clause-handed g c =
    let picks = g.P.Picks.picks c.args.picks.now in
    let is = subst (λ (o : Option ℕ). IsHanding picks c.args.from c.args.to.at c.args.to.t c.args.records.now c.keys.records o c.keys.visits) c.in_default.is c.keys.invariant.handing in
    walk_ends (chain_of c.args.records.now.columns c.args.from) (picked_at picks c.args.records.now) c.args.from c.args.to.at c.args.to.t c.args.records.now c.keys.records c.keys.visits is.walk

pub returns-clause-counted : goal.returns-clause-counted
returns-clause-counted g c =
    let picks = g.P.Picks.picks c.args.picks.now in
    let is = subst (λ (o : Option ℕ). IsHanding picks c.args.from c.args.to.at c.args.to.t c.args.records.now c.keys.records o c.keys.visits) c.in_default.is c.keys.invariant.handing in
    walk_least (chain_of c.args.records.now.columns c.args.from) (picked_at picks c.args.records.now) c.args.from c.args.to.at c.args.to.t c.args.records.now c.keys.records c.keys.visits is.walk

pub overflow_add-visits : goal.overflow_add-visits
overflow_add-visits g c =
    let picks = g.P.Picks.picks c.args.picks.now in
    let is = subst (λ (o : Option ℕ). IsHanding picks c.args.from c.args.to.at c.args.to.t c.args.records.now c.keys.records o c.keys.visits) c.in-Some.is c.keys.invariant.handing in
    let within = handing_within picks c.args.from c.args.to.at c.args.to.t c.args.records.now c.keys.records c.in-Some.key c.keys.visits is c.laws.ensures.crossed c.keys.invariant.crossed in
    omega (arith, is.walk.few, within, c.laws.ensures.short Column c.args.from, c.pass_on-visits.ensures.few)

pub returns-clause-visits : goal.returns-clause-visits
returns-clause-visits g c =
    let picks = g.P.Picks.picks c.args.picks.now in
    let is = subst (λ (o : Option ℕ). IsHanding picks c.args.from c.args.to.at c.args.to.t c.args.records.now c.keys.records o c.keys.visits) c.in_default.is c.keys.invariant.handing in
    walk_visits (chain_of c.args.records.now.columns c.args.from) (picked_at picks c.args.records.now) c.args.from c.args.to.at c.args.to.t c.args.records.now c.keys.records c.keys.visits is.walk
