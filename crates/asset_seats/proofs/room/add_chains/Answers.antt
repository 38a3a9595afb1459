use Rattle.std.proofs.Common.{length, refl, ap, ◌∙◌, arith}
use Rattle.asset_chains.specs.Chained.{Chained, chain_of}
use Rattle.asset_chains.proofs.Laws.{chain_more-chain, chain_more-chains, chain_more-keys}
use Rattle.asset_seats.proofs.room.add_chains.Goals as goal

pub chains-init : goal.chains-init
chains-init c = record { homes = refl; chains = λ d. refl; more = omega arith; no_more = omega arith }

pub chains-smaller : goal.chains-smaller
chains-smaller c =
    let more = ap (λ (table : Chained). length table.chains) c.in-Ok.ensures.added ∙ chain_more-chains c.chains.chains in omega (arith, more, c.chains-test.true, c.chains-in-chains.ensures)

pub chains-preserved : goal.chains-preserved
chains-preserved c = record {
  homes = ap (λ (table : Chained). table.homes) c.in-Ok.ensures.added ∙ chain_more-keys c.chains.chains ∙ c.chains.invariant.homes;
  chains = λ d. ap (λ (table : Chained). chain_of table d) c.in-Ok.ensures.added ∙ chain_more-chain c.chains.chains d ∙ c.chains.invariant.chains d;
  more = omega (arith, ap (λ (table : Chained). length table.chains) c.in-Ok.ensures.added ∙ chain_more-chains c.chains.chains, c.chains.invariant.more);
  no_more = omega (arith, ap (λ (table : Chained). length table.chains) c.in-Ok.ensures.added ∙ chain_more-chains c.chains.chains, c.chains-test.true, c.chains-in-chains.ensures);
}

pub returns-in-Err-clause-standing : goal.returns-in-Err-clause-standing
returns-in-Err-clause-standing c = λ there. absurd (omega (arith, there, c.chains.invariant.more, c.chains-test.true, c.chains-in-chains.ensures))

pub returns-in-Err-clause-no_more : goal.returns-in-Err-clause-no_more
returns-in-Err-clause-no_more c = rw c.in-Err.ensures.unchanged c.chains.invariant.no_more

pub returns-in-Err-clause-more : goal.returns-in-Err-clause-more
returns-in-Err-clause-more c = rw c.in-Err.ensures.unchanged c.chains.invariant.more

pub returns-in-Err-clause-chains : goal.returns-in-Err-clause-chains
returns-in-Err-clause-chains c = λ d. rw c.in-Err.ensures.unchanged (c.chains.invariant.chains d)

pub returns-in-Err-clause-homes : goal.returns-in-Err-clause-homes
returns-in-Err-clause-homes c = rw c.in-Err.ensures.unchanged c.chains.invariant.homes

pub returns-clause-no_more : goal.returns-clause-no_more
returns-clause-no_more c = c.chains.invariant.no_more

pub returns-clause-more : goal.returns-clause-more
returns-clause-more c = c.chains.invariant.more

pub returns-clause-chains : goal.returns-clause-chains
returns-clause-chains c = λ d. c.chains.invariant.chains d

pub returns-clause-homes : goal.returns-clause-homes
returns-clause-homes c = c.chains.invariant.homes

pub returns-clause-there : goal.returns-clause-there
returns-clause-there c = omega arith
