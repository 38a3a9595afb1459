use Rattle.std.proofs.Common.{rules}
use Rattle.asset_picture.specs.Shapes.{way_text}
use Rattle.asset_picture.proofs.arrow_text.push_way.Goals as goal

pub returns-in-Open : goal.returns-in-Open
unfolding way_text
returns-in-Open c = search rules
