use Rattle.std.proofs.Common.{refl}
use Rattle.asset_cli.specs.Playing.{prints_for}
use Rattle.asset_cli.specs.Reporting.{sourced}
use Rattle.asset_cli.proofs.ReportingLemmas.{history_renders, bad_line_renders}
use Rattle.asset_cli.proofs.reporting.render_sources.Goals as goal

pub returns-in-Ok-clause-rendered : goal.returns-in-Ok-clause-rendered
unfolding prints_for
returns-in-Ok-clause-rendered c = history_renders _ _ _ sourced _ _ _ _ (rw c.in-Ok-Finished.field-0-is at c.in-Ok-Finished.ensures.played) c.in-Ok.ensures refl

pub returns-in-Ok-BadLine-clause-rendered : goal.returns-in-Ok-BadLine-clause-rendered
unfolding prints_for
returns-in-Ok-BadLine-clause-rendered c = bad_line_renders _ _ _ _ _ _ (rw c.in-Ok-BadLine.field-0-is at c.in-Ok-BadLine.ensures.played)
