use Rattle.asset_model_laws.proofs.ClientLaw.{client_amid}
use Rattle.asset_model_laws.proofs.BetweenLaw.{client_amid_between}
use Rattle.asset_model_laws.proofs.bridges.run_stands_in_the_history_of_its_client.Goals as goal

pub returns-clause-all : goal.returns-clause-all
returns-clause-all c = client_amid

pub returns-clause-between : goal.returns-clause-between
returns-clause-between c = client_amid_between
