-- What was said of the bytes so far, with what is said of those that are left, is what is said of all.
use Rattle.std.proofs.Common.{◌≡◌, ◌+◌, ◌≤◌, ◌++◌, length}
use Rattle.std.specs.Prelude.{string_bytes}
use Rattle.asset_shell.specs.Sessions.{reason_for, reply_to}
use Rattle.asset_shell.specs.Talking.{after, said}
use Rattle.asset_shell.proofs.conversation.Conversation.hear.Given as goal

abbrev pub invariant-lines : goal.invariant-lines
invariant-lines l = record {
  replies : string_bytes l.answers.replies ++ said reply_to l.self l.rest ≡ string_bytes l.fn.answers.replies ++ said reply_to l.fn.self l.piece;
  reasons : string_bytes l.answers.reasons ++ said reason_for l.self l.rest ≡ string_bytes l.fn.answers.reasons ++ said reason_for l.fn.self l.piece;
  heard : after l.self l.rest ≡ after l.fn.self l.piece;
  few : l.self.number + length l.rest ≤ l.fn.self.number + length l.piece;
  short : length l.self.begun ≤ 4097;
}

abbrev pub decreases-lines : goal.decreases-lines
decreases-lines l = length l.rest
