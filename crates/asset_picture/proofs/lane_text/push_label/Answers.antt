use Rattle.asset_picture.specs.Layout.{pieces}
use Rattle.asset_picture.specs.Shapes.{label_text}
use Rattle.asset_picture.proofs.lane_text.push_label.Goals as goal

pub returns : goal.returns
unfolding label_text pieces
returns c = rw (c.band_word-band.ensures, c.state_word-state.ensures, c.x_at-x.ensures, c.unwrap_or.ensures) at c.write.ensures.bytes
