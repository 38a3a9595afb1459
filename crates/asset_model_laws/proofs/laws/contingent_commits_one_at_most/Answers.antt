use Rattle.asset_model_laws.proofs.ContingentLaw.{contingent_one}
use Rattle.asset_model_laws.proofs.laws.contingent_commits_one_at_most.Goals as goal

pub returns : goal.returns
returns c = contingent_one
