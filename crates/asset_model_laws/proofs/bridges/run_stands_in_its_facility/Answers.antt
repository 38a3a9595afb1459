use Rattle.asset_model_laws.proofs.RunAmid.{stands_in_facility}
use Rattle.asset_model_laws.proofs.bridges.run_stands_in_its_facility.Goals as goal

pub returns : goal.returns
returns c = stands_in_facility
