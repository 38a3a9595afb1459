use Rattle.std.proofs.Common.{length, refl, ap, ◌∙◌, arith}
use Rattle.asset_chains.specs.Chained.{Chained, home_of}
use Rattle.asset_chains.proofs.Laws.{key_more-home, key_more-keys, key_more-chains}
use Rattle.asset_seats.proofs.room.add_keys.Goals as goal

pub keys-init : goal.keys-init
keys-init c = record { chains = refl; homes = λ k. refl; more = omega arith; no_more = omega arith }

pub keys-smaller : goal.keys-smaller
keys-smaller c =
    let more = ap (λ (table : Chained). length table.homes) c.in-Ok.ensures.added ∙ key_more-keys c.keys.chains in omega (arith, more, c.keys-test.true, c.keys-in-keys.ensures)

pub keys-preserved : goal.keys-preserved
keys-preserved c = record {
  chains = ap (λ (table : Chained). table.chains) c.in-Ok.ensures.added ∙ key_more-chains c.keys.chains ∙ c.keys.invariant.chains;
  homes = λ k. ap (λ (table : Chained). home_of table k) c.in-Ok.ensures.added ∙ key_more-home c.keys.chains k ∙ c.keys.invariant.homes k;
  more = omega (arith, ap (λ (table : Chained). length table.homes) c.in-Ok.ensures.added ∙ key_more-keys c.keys.chains, c.keys.invariant.more);
  no_more = omega (arith, ap (λ (table : Chained). length table.homes) c.in-Ok.ensures.added ∙ key_more-keys c.keys.chains, c.keys-test.true, c.keys-in-keys.ensures);
}

pub returns-in-Err-clause-standing : goal.returns-in-Err-clause-standing
returns-in-Err-clause-standing c = λ there. absurd (omega (arith, there, c.keys.invariant.more, c.keys-test.true, c.keys-in-keys.ensures))

pub returns-in-Err-clause-no_more : goal.returns-in-Err-clause-no_more
returns-in-Err-clause-no_more c = rw c.in-Err.ensures.unchanged c.keys.invariant.no_more

pub returns-in-Err-clause-more : goal.returns-in-Err-clause-more
returns-in-Err-clause-more c = rw c.in-Err.ensures.unchanged c.keys.invariant.more

pub returns-in-Err-clause-chains : goal.returns-in-Err-clause-chains
returns-in-Err-clause-chains c = rw c.in-Err.ensures.unchanged c.keys.invariant.chains

pub returns-in-Err-clause-homes : goal.returns-in-Err-clause-homes
returns-in-Err-clause-homes c = λ k. rw c.in-Err.ensures.unchanged (c.keys.invariant.homes k)

pub returns-clause-no_more : goal.returns-clause-no_more
returns-clause-no_more c = c.keys.invariant.no_more

pub returns-clause-more : goal.returns-clause-more
returns-clause-more c = c.keys.invariant.more

pub returns-clause-chains : goal.returns-clause-chains
returns-clause-chains c = c.keys.invariant.chains

pub returns-clause-homes : goal.returns-clause-homes
returns-clause-homes c = λ k. c.keys.invariant.homes k

pub returns-clause-there : goal.returns-clause-there
returns-clause-there c = omega arith
