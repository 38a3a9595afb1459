use Rattle.asset_permits.proofs.ArrowLaws.{chain_from_allowed, allowed_from_chain, allowed_same}
use Rattle.asset_permits.proofs.laws.allowed_is_chain.Goals as goal

pub returns-clause-chain : goal.returns-clause-chain
returns-clause-chain c = λ descriptors u t x op. (chain_from_allowed descriptors u t x op, allowed_from_chain descriptors u t x op)

pub returns-clause-covered : goal.returns-clause-covered
returns-clause-covered c = allowed_same
