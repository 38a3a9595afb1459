use Rattle.std.proofs.Common.{◌≡◌, ◌+◌, [], length}
use Rattle.asset_names.specs.Sets.{HasNoDouble}
use Rattle.asset_names.specs.Steps.{objects_of}
use Rattle.asset_grammar.specs.Lines.{lines}
use Rattle.asset_scripts.specs.Preamble.{beginning}
use Rattle.asset_scripts.proofs.preamble.take_objects.Given as goal

-- the lines left, over the opening so far, begin as all of them do
abbrev pub invariant-lines : goal.invariant-lines
invariant-lines l = record {
  begun : beginning (lines l.bytes) 1 [] ≡ beginning l.rest l.number l.opening;
  count : l.number + length l.rest ≡ 1 + length (lines l.bytes);
  different : HasNoDouble (objects_of l.opening);
}

abbrev pub decreases-lines : goal.decreases-lines
decreases-lines l = length l.rest
