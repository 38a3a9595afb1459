use Rattle.std.proofs.Common.{ap, ◌∙◌}
use Rattle.asset_records.specs.Handed.{is_picked}
use Rattle.asset_records.proofs.handing.is_picked.Goals as goal

pub returns-in-Some : goal.returns-in-Some
returns-in-Some g c = c.picks.ensures ∙ ap (is_picked (g.P.Picks.picks c.args.picks.now)) c.in-Some.ensures
