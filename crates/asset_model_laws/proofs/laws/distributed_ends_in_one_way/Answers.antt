use Rattle.std.proofs.Common.{refl}
use Rattle.asset_models.specs.declared.parts.ModelEnd.TheVariants as ModelEnd'
use Rattle.asset_model_laws.proofs.FinalLemmas.{is_final}
use Rattle.asset_model_laws.proofs.TogetherLaws.{distributed_one_way, one_way_committed, one_way_aborted}
use Rattle.asset_model_laws.proofs.laws.distributed_ends_in_one_way.Goals as goal

pub returns-clause-committed : goal.returns-clause-committed
unfolding is_final
returns-clause-committed c = λ opening others parts old calls new legal run amid. one_way_committed new parts (distributed_one_way opening others parts old calls new ModelEnd'.Committed legal refl run amid)

pub returns-clause-aborted : goal.returns-clause-aborted
unfolding is_final
returns-clause-aborted c = λ opening others parts old calls new legal run amid. one_way_aborted new parts (distributed_one_way opening others parts old calls new ModelEnd'.Aborted legal refl run amid)
