use Rattle.std.proofs.Common.{◌≡◌, ◌+◌, length}
use Rattle.asset_grammar.specs.Lines.{lines}
use Rattle.asset_jobs.specs.Jobs.{jobs_of, said_from}
use Rattle.asset_jobs.specs.Scripts.{so_far}
use Rattle.asset_jobs.proofs.parsing.take_lines.Given as goal

-- the lines left say, after what is taken, what all of them do
abbrev pub invariant-lines : goal.invariant-lines
invariant-lines l = record {
  says : jobs_of l.bytes ≡ said_from l.left l.number (so_far l.opening l.jobs);
  count : l.number + length l.left ≡ 1 + length (lines l.bytes);
}

abbrev pub decreases-lines : goal.decreases-lines
decreases-lines l = length l.left
