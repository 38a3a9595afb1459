use Rattle.std.proofs.Common.{rules}
use Rattle.asset_handle.proofs.codes.Code.number.Goals as goal

pub returns-in-Absent : goal.returns-in-Absent
returns-in-Absent c = search rules
