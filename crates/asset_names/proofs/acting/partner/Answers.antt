use Rattle.std.proofs.Common.{rules}
use Rattle.asset_names.specs.Groups.{actor, partner}
use Rattle.asset_names.proofs.acting.partner.Goals as goal

pub returns-in-Depend : goal.returns-in-Depend
unfolding actor partner
returns-in-Depend c = search rules
