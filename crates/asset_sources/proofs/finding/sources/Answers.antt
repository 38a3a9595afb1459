use Rattle.std.proofs.Common.{List, Option, length, ap, ◌∙◌}
use Rattle.std.specs.Prelude.{slice_get}
use Rattle.std.proofs.lemmas.Result.{IfOk-weaker}
use Rattle.asset_sources.specs.declared.sourced.Source.{Source}
use Rattle.asset_sources.proofs.WalkLemmas.{sources_long, each_source}
use Rattle.asset_sources.proofs.finding.sources.Goals as goal

pub returns-clause-long : goal.returns-clause-long
returns-clause-long c =
    IfOk-weaker c.find_all-found.result _ _ (λ found is. ap (λ (l : List (Option Source)). length l) is ∙ sources_long c.args.history.now.entries) c.find_all-found.ensures

pub returns-clause-each : goal.returns-clause-each
returns-clause-each c =
    IfOk-weaker c.find_all-found.result _ _ (λ found is i below. ap (λ (l : List (Option Source)). slice_get l i) is ∙ each_source c.args.history.now.entries i below) c.find_all-found.ensures
