use Rattle.std.proofs.Common.{ℕ, ◌+◌, ◌*◌, length, Option, ap, ◌∙◌, arith}
use Rattle.asset_chains.proofs.Walks.{home_same}
use Rattle.asset_seats.specs.Bucketed.{taken, bucket_in, name_in, rebucketed}
use Rattle.asset_seats.proofs.GrowLemmas.{chains_valid, spreads_valid, spreads_taken}
use Rattle.asset_seats.proofs.buckets.widen.Goals as goal

pub returns-in_err-add_chains-clause-seated : goal.returns-in_err-add_chains-clause-seated
returns-in_err-add_chains-clause-seated c = chains_valid c.args.names.now c.args.chains.now c.add_chains.new.chains c.args.buckets.now c.requires c.add_chains.ensures.homes c.add_chains.ensures.more

pub returns-in_err-add_chains-clause-seats : goal.returns-in_err-add_chains-clause-seats
returns-in_err-add_chains-clause-seats c = λ k t. ap (λ (o : Option ℕ). taken o t) (home_same c.args.chains.now c.add_chains.new.chains c.add_chains.ensures.homes k)

pub returns-clause-seated : goal.returns-clause-seated
returns-clause-seated c =
    spreads_valid c.args.names.now c.args.chains.now c.spread.new.chains c.args.buckets.now (2 * c.args.buckets.now + 1) c.requires
    (λ k. c.spread.ensures.homes k ∙ ap (rebucketed (bucket_in (name_in c.args.names.now k).0 (2 * c.args.buckets.now + 1))) (home_same c.args.chains.now c.add_chains.new.chains c.add_chains.ensures.homes k))
    (c.spread.ensures.sizes.0 ∙ ap length c.add_chains.ensures.homes) (omega arith) (omega (arith, c.in_ok-add_chains.ensures.there, c.spread.ensures.sizes.1))

pub returns-clause-seats : goal.returns-clause-seats
returns-clause-seats c =
    spreads_taken c.args.names.now c.args.chains.now c.spread.new.chains c.args.buckets.now (2 * c.args.buckets.now + 1) c.requires
    (λ k. c.spread.ensures.homes k ∙ ap (rebucketed (bucket_in (name_in c.args.names.now k).0 (2 * c.args.buckets.now + 1))) (home_same c.args.chains.now c.add_chains.new.chains c.add_chains.ensures.homes k))
    (c.spread.ensures.sizes.0 ∙ ap length c.add_chains.ensures.homes) (omega arith) (omega (arith, c.in_ok-add_chains.ensures.there, c.spread.ensures.sizes.1))
