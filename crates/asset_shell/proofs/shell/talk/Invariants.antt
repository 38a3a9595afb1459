-- Nobody waits for an answer, lines are no more than bytes, and each turn asks the reader once.
use Rattle.std.proofs.Common.{◌≡◌, ◌+◌, ◌*◌, ◌≤◌, length}
use Rattle.asset_scripts.specs.Device.{counted}
use Rattle.asset_shell.specs.Turns.{IsUpToDate, streams}
use Rattle.asset_shell.proofs.shell.talk.Given as goal

abbrev pub invariant-requests : goal.invariant-requests
invariant-requests g l = record {
  up_to_date : IsUpToDate (streams (g.R.Read.remaining l.fn.input.inner) (g.W.Write.contents l.fn.output.inner) (g.E.Write.contents l.fn.errors.inner)) (streams (g.R.Read.remaining l.input.inner) (g.W.Write.contents l.output.inner) (g.E.Write.contents l.errors.inner)) l.capacity l.conversation;
  few : l.conversation.number ≤ 1 + 65536 * l.counter;
  asked : counted l.fn.input.asked l.counter ≤ l.input.asked;
  room : length l.piece ≡ 65536;
}
