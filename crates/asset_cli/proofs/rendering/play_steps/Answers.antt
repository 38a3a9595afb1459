use Rattle.asset_cli.proofs.TranscriptLemmas.{ended_plays}
use Rattle.asset_cli.proofs.rendering.play_steps.Goals as goal

pub returns-in-Ok-clause-played : goal.returns-in-Ok-clause-played
returns-in-Ok-clause-played c = rw (c.end_play.ensures, c.into_history-history.ensures) (ended_plays _ _ _ c.render_steps-bad.new.core.history c.in-Ok.bad c.in-Ok.ensures.rendered)
