use Rattle.std.proofs.Common.{◌∙◌}
use Rattle.asset_deps.proofs.KindLemmas.{class_linked}
use Rattle.asset_deps.specs.Valid.{dependencies_in}
use Rattle.asset_deps.proofs.table.SeatedDeps.mark_class.Goals as goal

pub returns-clause-marked : goal.returns-clause-marked
returns-clause-marked c = λ n. c.mark.ensures.marked n ∙ class_linked (dependencies_in c.args.self.now) c.args.t.t.0 n
