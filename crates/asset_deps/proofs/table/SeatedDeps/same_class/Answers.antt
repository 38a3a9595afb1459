use Rattle.std.proofs.Common.{◌∙◌}
use Rattle.asset_deps.proofs.KindLemmas.{class_linked}
use Rattle.asset_deps.specs.Valid.{dependencies_in}
use Rattle.asset_deps.proofs.table.SeatedDeps.same_class.Goals as goal

pub returns-clause-same_class : goal.returns-clause-same_class
returns-clause-same_class c = c.is_reached.ensures.reached ∙ class_linked (dependencies_in c.args.self.now) c.args.a.t.0 c.args.b.t.0
