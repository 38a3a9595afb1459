use Rattle.asset_picture.specs.Layout.{pieces}
use Rattle.asset_picture.specs.Shapes.{lane_start_text}
use Rattle.asset_picture.proofs.lane_text.push_start.Goals as goal

pub returns : goal.returns
unfolding lane_start_text pieces
returns c = rw (c.status_word-word.ensures, c.pale-pale.ensures, c.y_at-y.ensures) at c.write.ensures.bytes
