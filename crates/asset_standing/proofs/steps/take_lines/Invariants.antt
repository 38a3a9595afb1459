use Rattle.std.proofs.Common.{◌≡◌, ◌+◌, length}
use Rattle.asset_standing.specs.Standing.{steps_left}
use Rattle.asset_standing.proofs.steps.take_lines.Given as goal

-- the lines left leave, over the facility so far, what all of them do
abbrev pub invariant-lines : goal.invariant-lines
invariant-lines l = record {
  left : steps_left l.fn.rest l.number l.fn.core ≡ steps_left l.rest l.line_number l.core;
  count : l.line_number + length l.rest ≡ l.number + length l.fn.rest;
}

abbrev pub decreases-lines : goal.decreases-lines
decreases-lines l = length l.rest
