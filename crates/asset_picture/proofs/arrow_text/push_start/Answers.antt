use Rattle.asset_picture.specs.Layout.{pieces}
use Rattle.asset_picture.specs.Shapes.{arrow_start_text}
use Rattle.asset_picture.proofs.arrow_text.push_start.Goals as goal

pub returns : goal.returns
unfolding arrow_start_text pieces
returns c = rw (c.drawn_word-word.ensures, c.pale-pale.ensures, c.x_at-x.ensures, c.y_at-y.ensures) at c.write.ensures.bytes
