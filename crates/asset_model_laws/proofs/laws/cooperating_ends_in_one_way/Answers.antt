use Rattle.std.proofs.Common.{[], ◌∷◌, refl}
use Rattle.asset_models.specs.declared.parts.ModelEnd.TheVariants as ModelEnd'
use Rattle.asset_model_laws.proofs.FinalLemmas.{is_final}
use Rattle.asset_model_laws.proofs.TogetherLaws.{cooperating_one_way, one_way_committed, one_way_aborted}
use Rattle.asset_model_laws.proofs.laws.cooperating_ends_in_one_way.Goals as goal

pub returns-clause-committed : goal.returns-clause-committed
unfolding is_final
returns-clause-committed c = λ opening others p q obs old calls new legal run amid. one_way_committed new (p ∷ q ∷ []) (cooperating_one_way opening others p q obs old calls new ModelEnd'.Committed legal refl run amid)

pub returns-clause-aborted : goal.returns-clause-aborted
unfolding is_final
returns-clause-aborted c = λ opening others p q obs old calls new legal run amid. one_way_aborted new (p ∷ q ∷ []) (cooperating_one_way opening others p q obs old calls new ModelEnd'.Aborted legal refl run amid)
