use Rattle.asset_cli.proofs.ReportingLemmas.{played_renders}
use Rattle.asset_cli.proofs.reporting.render_transcript.Goals as goal

pub returns-in-Ok-clause-rendered : goal.returns-in-Ok-clause-rendered
returns-in-Ok-clause-rendered c = rw c.end_of.ensures (played_renders _ _ _ _ c.in-Ok.ensures.played)
