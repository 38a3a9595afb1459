use Rattle.std.proofs.Common.{◌≡◌, take, arith}
use Rattle.std.proofs.lemmas.List.{take_all}
use Rattle.asset_check.specs.Sentences.{shown}
use Rattle.asset_check.proofs.texts.push_shown.Goals as goal

pub returns : goal.returns
unfolding shown
returns c =
    let front = c.front-front.result.now in
    let all : take c.loop-byte.byte-index front ≡ front = take_all c.loop-byte.byte-index front (omega arith) in
    rw (all, c.front-front.ensures) at c.loop-byte.invariant
