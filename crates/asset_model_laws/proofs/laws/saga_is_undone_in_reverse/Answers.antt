use Rattle.asset_model_laws.proofs.SagaLaw.{saga_undone}
use Rattle.asset_model_laws.proofs.laws.saga_is_undone_in_reverse.Goals as goal

pub returns : goal.returns
returns c = saga_undone
