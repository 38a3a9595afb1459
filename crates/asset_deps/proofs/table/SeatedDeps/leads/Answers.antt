use Rattle.std.proofs.Common.{◌∙◌}
use Rattle.asset_deps.proofs.KindLemmas.{path_linked}
use Rattle.asset_deps.specs.Valid.{dependencies_in}
use Rattle.asset_deps.proofs.table.SeatedDeps.leads.Goals as goal

pub returns-clause-leads : goal.returns-clause-leads
returns-clause-leads c = c.is_reached.ensures.reached ∙ path_linked (dependencies_in c.args.self.now) c.args.a.t.0 c.args.b.t.0
