use Rattle.std.proofs.Common.{sym, subst}
use Rattle.asset_meetings.specs.Meetings.{AreMeetings}
use Rattle.asset_meetings.proofs.SameLemmas.{are_meetings}
use Rattle.asset_meetings.proofs.joining.meetings.Goals as goal

pub returns-in-Ok : goal.returns-in-Ok
returns-in-Ok c = subst (AreMeetings c.args.history.now.entries) (sym c.in-Ok.ensures) (are_meetings c.args.history.now.entries)
