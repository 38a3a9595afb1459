use Rattle.asset_laws.proofs.PathLemmas.{leads_path, path_leads}
use Rattle.asset_laws.proofs.dependencies.path_is_leading.Goals as goal

pub returns : goal.returns
returns c = λ classes orders a b. (leads_path classes orders a b, path_leads classes orders a b)
