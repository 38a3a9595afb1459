use Rattle.asset_picture.specs.Layout.{pieces}
use Rattle.asset_picture.specs.Tables.{row_text}
use Rattle.asset_picture.proofs.table.push_row.Goals as goal

pub returns : goal.returns
unfolding row_text pieces
returns c = rw (c.state_word-state.ensures, c.status_word-status.ensures) at c.write.ensures.bytes
