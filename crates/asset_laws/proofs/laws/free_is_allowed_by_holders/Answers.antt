use Rattle.asset_names.proofs.HolderLemmas.{free_allowed, allowed_free}
use Rattle.asset_laws.proofs.laws.free_is_allowed_by_holders.Goals as goal

pub returns : goal.returns
returns c = λ steps t x op. (free_allowed steps t x op, allowed_free steps t x op)
