use Rattle.asset_names.proofs.Arrows.{chain_from_linked, linked_from_chain}
use Rattle.asset_laws.proofs.laws.linked_is_chain.Goals as goal

pub returns : goal.returns
returns c = λ arrows a b. (chain_from_linked arrows a b, linked_from_chain arrows a b)
