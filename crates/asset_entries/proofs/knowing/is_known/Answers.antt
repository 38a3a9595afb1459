use Rattle.std.proofs.Common.{rules}
use Rattle.asset_entries.specs.Knowing.{is_known_tag}
use Rattle.asset_entries.proofs.knowing.is_known.Goals as goal

pub returns-in-Unknown : goal.returns-in-Unknown
unfolding is_known_tag
returns-in-Unknown c = search rules
