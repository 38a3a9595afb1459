use Rattle.std.proofs.Common.{sym, ◌∙◌}
use Rattle.std.specs.Prelude.{string_bytes}
use Rattle.asset_standing.proofs.StandingLemmas.{renders_report, renders_bad}
use Rattle.asset_standing.proofs.reporting.WaitsRender.render.Goals as goal

pub returns-in-Ok-Finished-clause-rendered : goal.returns-in-Ok-Finished-clause-rendered
returns-in-Ok-Finished-clause-rendered c =
    renders_report c.args.bytes.now c.args.self.now.capacity c.in-Ok-Finished.core (string_bytes c.args.text.now) (string_bytes c.push_report.new.text) c.push_report.result
    (sym c.in-Ok-Finished.field-0-is ∙ c.in-Ok-Finished.ensures.stood) c.push_report.ensures.text c.push_report.ensures.end

pub returns-in_ok-push_bad_line-in-Ok-BadLine-clause-rendered : goal.returns-in_ok-push_bad_line-in-Ok-BadLine-clause-rendered
returns-in_ok-push_bad_line-in-Ok-BadLine-clause-rendered c =
    renders_bad c.args.bytes.now c.args.self.now.capacity c.in-Ok-BadLine.number (string_bytes c.args.text.now) (string_bytes c.push_bad_line.new.text)
    (sym c.in-Ok-BadLine.field-0-is ∙ c.in-Ok-BadLine.ensures.stood) c.in_ok-push_bad_line-in-Ok-BadLine.ensures
