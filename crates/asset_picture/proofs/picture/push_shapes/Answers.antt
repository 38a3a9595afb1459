use Rattle.std.proofs.Common.{rules}
use Rattle.asset_picture.specs.Picture.{shapes_text}
use Rattle.asset_picture.proofs.picture.push_shapes.Goals as goal

pub returns : goal.returns
unfolding shapes_text
returns c = search rules
