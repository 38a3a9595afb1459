use Rattle.asset_picture.specs.Layout.{pieces}
use Rattle.asset_picture.specs.Shapes.{mark_start_text}
use Rattle.asset_picture.proofs.mark_text.push_start.Goals as goal

pub returns : goal.returns
unfolding mark_start_text pieces
returns c = rw (c.op_word-word.ensures, c.pale-pale.ensures, c.x_at-x.ensures, c.y_at-y.ensures) at c.write.ensures.bytes
