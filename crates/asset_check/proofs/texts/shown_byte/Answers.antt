use Rattle.std.proofs.Common.{rules}
use Rattle.asset_check.specs.Sentences.{shown_byte}
use Rattle.asset_check.proofs.texts.shown_byte.Goals as goal

pub returns-then-byte-lt127-clause-is : goal.returns-then-byte-lt127-clause-is
unfolding shown_byte
returns-then-byte-lt127-clause-is c = search rules
