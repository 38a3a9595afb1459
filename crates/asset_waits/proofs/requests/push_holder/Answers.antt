use Rattle.asset_waits.specs.Words.{pieces}
use Rattle.asset_waits.specs.Texts.{holder_text}
use Rattle.asset_waits.proofs.requests.push_holder.Goals as goal

pub returns : goal.returns
unfolding holder_text pieces
returns c = rw (c.held_words-words.ensures) at c.write.ensures.bytes
