use Rattle.std.proofs.Common.{◌≡◌, ◌+◌, length}
use Rattle.std.specs.Prelude.{string_bytes}
use Rattle.asset_scripts.specs.Transcript.{steps_from, steps_transcript}
use Rattle.asset_cli.specs.Rendering.{RendersOn}
use Rattle.asset_cli.proofs.rendering.render_steps.Given as goal

-- the text so far, with what the lines left print, is the text at first with the whole transcript
abbrev pub invariant-lines : goal.invariant-lines
invariant-lines l = record {
  rendered : RendersOn (string_bytes l.fn.text) (steps_from l.prints l.fn.step l.fn.rest l.number l.fn.core.history) (string_bytes l.text) (steps_transcript l.prints l.rest l.line_number l.core.history);
  count : l.line_number + length l.rest ≡ l.number + 1 + length l.fn.rest;
}

abbrev pub decreases-lines : goal.decreases-lines
decreases-lines l = length l.rest
