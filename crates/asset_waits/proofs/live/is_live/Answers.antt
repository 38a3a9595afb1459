use Rattle.std.proofs.Common.{sym, ◌∙◌, ap}
use Rattle.asset_names.specs.Endings.{is_live_status}
use Rattle.asset_names.proofs.LiveLemmas.{live_by_status}
use Rattle.asset_waits.proofs.live.is_live.Goals as goal

pub returns : goal.returns
returns c = c.is_live.ensures ∙ ap is_live_status c.status.ensures ∙ sym (live_by_status _ c.args.t.0)
