-- The bytes so far were appended as they are printed.
use Rattle.std.proofs.Common.{◌≡◌, ◌++◌, take}
use Rattle.std.specs.Prelude.{map, string_bytes}
use Rattle.asset_check.specs.Sentences.{shown_byte}
use Rattle.asset_check.proofs.texts.push_shown.Given as goal

abbrev pub invariant-loop-byte : goal.invariant-loop-byte
invariant-loop-byte l = string_bytes l.text ≡ string_bytes l.initial.text ++ map shown_byte (take l.byte-index l.front)
