use Rattle.std.proofs.Common.{rules}
use Rattle.asset_picture.specs.Shapes.{status_word}
use Rattle.asset_picture.proofs.lane_text.status_word.Goals as goal

pub returns-in-Committed : goal.returns-in-Committed
unfolding status_word
returns-in-Committed c = search rules
