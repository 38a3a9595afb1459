use Rattle.std.proofs.Common.{append_assoc}
use Rattle.asset_printing.specs.Texts.{line_end}
use Rattle.asset_jobs.specs.Texts.{fault_line}
use Rattle.asset_jobs.proofs.rows.push_fault.Goals as goal

pub returns-in-Differs : goal.returns-in-Differs
unfolding fault_line line_end
returns-in-Differs c = rw c.in-Differs.is (simp append_assoc c.writeln.ensures.bytes)
