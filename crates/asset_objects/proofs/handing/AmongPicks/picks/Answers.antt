use Rattle.std.proofs.Common.{ap, ◌∙◌}
use Rattle.asset_objects.specs.Placed.{is_in, is_among}
use Rattle.asset_objects.proofs.handing.AmongPicks.picks.Goals as goal

pub returns-in-Some : goal.returns-in-Some
unfolding is_among is_in
returns-in-Some c = c.has.ensures ∙ ap (is_in c.args.self.now.set.now) c.in-Some.ensures.key

pub returns-in-None : goal.returns-in-None
unfolding is_among is_in
returns-in-None c = ap (is_in c.args.self.now.set.now) c.in-None.ensures.key
