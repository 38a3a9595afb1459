use Rattle.asset_laws.proofs.AllowingLemmas.{allows_chain, chain_allows}
use Rattle.asset_laws.proofs.laws.allowing_is_chain.Goals as goal

pub returns : goal.returns
returns c = λ steps u t x op. (allows_chain steps u t x op, chain_allows steps x op u t)
