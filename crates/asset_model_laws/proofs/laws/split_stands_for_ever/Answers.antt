use Rattle.asset_model_laws.proofs.HandingLaws.{split_stands}
use Rattle.asset_model_laws.proofs.laws.split_stands_for_ever.Goals as goal

pub returns : goal.returns
returns c = split_stands
