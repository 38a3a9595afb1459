use Rattle.std.proofs.Common.{◌∙◌}
use Rattle.asset_chains.proofs.Walks.{chain_same, home_same}
use Rattle.asset_locks.proofs.room.add_to_order.Goals as goal

pub returns-in_err-add_chains-clause-homes : goal.returns-in_err-add_chains-clause-homes
returns-in_err-add_chains-clause-homes c = home_same c.args.order.now c.add_chains.new.chains c.add_chains.ensures.homes

pub returns-clause-chains : goal.returns-clause-chains
returns-clause-chains c = λ d. chain_same c.add_chains.new.chains c.add_keys.new.chains c.add_keys.ensures.chains d ∙ c.add_chains.ensures.chains d

pub returns-clause-homes : goal.returns-clause-homes
returns-clause-homes c = λ k. c.add_keys.ensures.homes k ∙ home_same c.args.order.now c.add_chains.new.chains c.add_chains.ensures.homes k
