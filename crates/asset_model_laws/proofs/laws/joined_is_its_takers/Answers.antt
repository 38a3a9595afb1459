use Rattle.asset_model_laws.proofs.HandingLaws.{join_takes_all}
use Rattle.asset_model_laws.proofs.laws.joined_is_its_takers.Goals as goal

pub returns : goal.returns
returns c = join_takes_all
