use Rattle.std.proofs.Common.{◌∙◌}
use Rattle.asset_deletion.proofs.NameLemmas.{inserted}
use Rattle.asset_lanes.proofs.asking.add_name.Goals as goal

pub returns-in-Ok : goal.returns-in-Ok
returns-in-Ok c = c.in-Ok.ensures.keys ∙ inserted c.args.names.now.keys c.args.n
