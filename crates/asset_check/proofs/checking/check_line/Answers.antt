use Rattle.std.proofs.Common.{sym, append-nil}
use Rattle.std.specs.Prelude.{string_bytes}
use Rattle.asset_check.specs.Sentences.{mistake_line}
use Rattle.asset_check.proofs.checking.check_line.Goals as goal

pub returns-in-None-clause-text : goal.returns-in-None-clause-text
unfolding mistake_line
returns-in-None-clause-text c =
    let none = rw c.in-None.is at (c.in_ok-found.ensures.mistake c.said_of-said.new.step c.said_of-said.ensures) in
    rw none (sym (append-nil (string_bytes c.args.text.now)))
