use Rattle.asset_models.specs.Courses.{act_value}
use Rattle.std.proofs.Common.{rules}
use Rattle.asset_models.proofs.asking.act_value.Goals as goal

pub returns-in-Write : goal.returns-in-Write
unfolding act_value
returns-in-Write c = search rules

pub returns-in-Add : goal.returns-in-Add
unfolding act_value
returns-in-Add c = search rules
