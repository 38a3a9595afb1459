use Rattle.std.proofs.Common.{rules}
use Rattle.asset_core.proofs.facility.Core.step_lent.Goals as goal

pub step_at_once-requires : goal.step_at_once-requires
step_at_once-requires c = search rules

pub returns-then-has_place : goal.returns-then-has_place
returns-then-has_place c = search rules
