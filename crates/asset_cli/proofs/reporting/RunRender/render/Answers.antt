use Rattle.std.proofs.Common.{rules}
use Rattle.asset_cli.specs.Playing.{prints_for}
use Rattle.asset_cli.proofs.reporting.RunRender.render.Goals as goal

pub returns-in-Run-clause-rendered : goal.returns-in-Run-clause-rendered
unfolding prints_for
returns-in-Run-clause-rendered c = rw c.in-Run.is c.render_transcript.ensures.rendered

pub returns-in-Steps-clause-rendered : goal.returns-in-Steps-clause-rendered
unfolding prints_for
returns-in-Steps-clause-rendered c = rw c.in-Steps.is c.render_transcript-in-Steps.ensures.rendered

pub returns-in-Sources : goal.returns-in-Sources
returns-in-Sources c = search rules
