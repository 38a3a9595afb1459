use Rattle.std.proofs.Common.{ℕ, Option, length, ap, subst, arith}
use Rattle.asset_chains.specs.Chained.{chain_of}
use Rattle.asset_chains.specs.declared.side.Side.TheVariants.{Row}
use Rattle.asset_chains.proofs.Walks.{from_key}
use Rattle.asset_records.specs.Handed.{stands_in}
use Rattle.asset_records.proofs.WalkLemmas.{walk_starts, walk_ends, walk_least, walk_visits}
use Rattle.asset_records.proofs.PassLemmas.{IsPassing, passing_home, passing_there, passing_within, passing_smaller, passing_steps}
use Rattle.asset_records.proofs.handing.hand_over_row.Goals as goal

pub keys-init : goal.keys-init
keys-init c = record {
  crossed = c.laws.ensures.crossed;
  passing = walk_starts (chain_of c.args.records.now.rows c.args.object) (stands_in c.args.from c.args.records.now) c.args.from c.args.to.at c.args.to.t c.args.records.now c.first-next.result c.first-next.ensures;
}

pub pass_from-visits-requires-clause-there : goal.pass_from-visits-requires-clause-there
pass_from-visits-requires-clause-there c =
    let is = subst (λ (o : Option ℕ). IsPassing c.args.object c.args.from c.args.to.at c.args.to.t c.args.records.now c.keys.records o c.keys.visits) c.in-Some.is c.keys.invariant.passing in
    passing_there c.args.object c.args.from c.args.to.at c.args.to.t c.args.records.now c.keys.records c.in-Some.key c.keys.visits is c.laws.ensures.crossed c.keys.invariant.crossed

pub pass_from-visits-requires-clause-seat : goal.pass_from-visits-requires-clause-seat
pass_from-visits-requires-clause-seat c = omega (arith, c.requires.seat, c.keys.invariant.passing.hands.many)

pub keys-smaller : goal.keys-smaller
keys-smaller c =
    let is = subst (λ (o : Option ℕ). IsPassing c.args.object c.args.from c.args.to.at c.args.to.t c.args.records.now c.keys.records o c.keys.visits) c.in-Some.is c.keys.invariant.passing in
    let home = passing_home c.args.object c.args.from c.args.to.at c.args.to.t c.args.records.now c.keys.records c.in-Some.key c.keys.visits is c.laws.ensures.crossed c.keys.invariant.crossed in
    let less = passing_smaller c.args.object c.args.from c.args.to.at c.args.to.t c.args.records.now c.keys.records c.in-Some.key c.keys.visits is c.laws.ensures.crossed c.keys.invariant.crossed c.next-next.result (c.next-next.ensures.next c.args.object home) in
    omega (arith, less, ap (λ (o : Option ℕ). length (from_key o (chain_of c.args.records.now.rows c.args.object))) c.in-Some.is)

pub keys-preserved : goal.keys-preserved
keys-preserved c =
    let is = subst (λ (o : Option ℕ). IsPassing c.args.object c.args.from c.args.to.at c.args.to.t c.args.records.now c.keys.records o c.keys.visits) c.in-Some.is c.keys.invariant.passing in
    let home = passing_home c.args.object c.args.from c.args.to.at c.args.to.t c.args.records.now c.keys.records c.in-Some.key c.keys.visits is c.laws.ensures.crossed c.keys.invariant.crossed in
    record {
      crossed = c.laws-in-Some.ensures.crossed;
      passing = passing_steps c.args.object c.args.from c.args.to.at c.args.to.t c.args.records.now c.keys.records c.in-Some.key c.keys.visits is c.laws.ensures.crossed c.keys.invariant.crossed
          c.pass_from-visits.new.records c.next-next.result _ (c.next-next.ensures.next c.args.object home) (omega (arith, c.pass_from-visits.ensures.counted)) (omega (arith, c.pass_from-visits.ensures.few))
          c.pass_from-visits.ensures.picked c.pass_from-visits.ensures.other;
    }

pub returns-clause-handed : goal.returns-clause-handed
returns-clause-handed c =
    let is = subst (λ (o : Option ℕ). IsPassing c.args.object c.args.from c.args.to.at c.args.to.t c.args.records.now c.keys.records o c.keys.visits) c.in_default.is c.keys.invariant.passing in
    walk_ends (chain_of c.args.records.now.rows c.args.object) (stands_in c.args.from c.args.records.now) c.args.from c.args.to.at c.args.to.t c.args.records.now c.keys.records c.keys.visits is

pub returns-clause-counted : goal.returns-clause-counted
returns-clause-counted c =
    let is = subst (λ (o : Option ℕ). IsPassing c.args.object c.args.from c.args.to.at c.args.to.t c.args.records.now c.keys.records o c.keys.visits) c.in_default.is c.keys.invariant.passing in
    walk_least (chain_of c.args.records.now.rows c.args.object) (stands_in c.args.from c.args.records.now) c.args.from c.args.to.at c.args.to.t c.args.records.now c.keys.records c.keys.visits is

pub returns-clause-visits : goal.returns-clause-visits
returns-clause-visits c =
    let is = subst (λ (o : Option ℕ). IsPassing c.args.object c.args.from c.args.to.at c.args.to.t c.args.records.now c.keys.records o c.keys.visits) c.in_default.is c.keys.invariant.passing in
    walk_visits (chain_of c.args.records.now.rows c.args.object) (stands_in c.args.from c.args.records.now) c.args.from c.args.to.at c.args.to.t c.args.records.now c.keys.records c.keys.visits is

pub overflow_add-visits : goal.overflow_add-visits
overflow_add-visits c =
    let is = subst (λ (o : Option ℕ). IsPassing c.args.object c.args.from c.args.to.at c.args.to.t c.args.records.now c.keys.records o c.keys.visits) c.in-Some.is c.keys.invariant.passing in
    let within = passing_within c.args.object c.args.from c.args.to.at c.args.to.t c.args.records.now c.keys.records c.in-Some.key c.keys.visits is c.laws.ensures.crossed c.keys.invariant.crossed in
    omega (arith, is.few, within, c.laws.ensures.short Row c.args.object, c.pass_from-visits.ensures.few)
