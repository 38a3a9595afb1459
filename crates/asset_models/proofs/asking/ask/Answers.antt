use Rattle.std.proofs.Common.{refl}
use Rattle.asset_models.specs.Courses.{IsCut}
use Rattle.asset_models.specs.Follows.{cut_end}
use Rattle.asset_models.proofs.asking.ask.Goals as goal

pub returns-clause-cut : goal.returns-clause-cut
unfolding IsCut cut_end
returns-clause-cut g c = refl
