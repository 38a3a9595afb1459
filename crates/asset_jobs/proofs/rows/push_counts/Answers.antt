use Rattle.std.proofs.Common.{append_assoc}
use Rattle.asset_printing.specs.Texts.{line_end}
use Rattle.asset_jobs.specs.Texts.{counts_line}
use Rattle.asset_jobs.proofs.rows.push_counts.Goals as goal

pub returns : goal.returns
unfolding counts_line line_end
returns c = simp append_assoc c.writeln.ensures.bytes
