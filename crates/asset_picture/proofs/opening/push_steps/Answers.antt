use Rattle.std.proofs.Common.{string_bytes, sym, append-nil}
use Rattle.asset_picture.specs.Picture.{column_number_text, column_numbers_text}
use Rattle.asset_names.proofs.MoreLemmas.{number_more}
use Rattle.asset_picture.proofs.opening.push_steps.Goals as goal

pub entries-init : goal.entries-init
unfolding column_numbers_text
entries-init c = sym (append-nil (string_bytes c.args.text.now))

pub entries-preserved : goal.entries-preserved
unfolding column_numbers_text
entries-preserved c =
    number_more (column_number_text c.args.wide) c.entries.i (string_bytes c.args.text.now) (string_bytes c.entries.text) _ c.entries.invariant c.in_ok-push_step.ensures
