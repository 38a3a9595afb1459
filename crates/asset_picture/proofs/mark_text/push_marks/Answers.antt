use Rattle.std.proofs.Common.{string_bytes, sym, append-nil}
use Rattle.asset_picture.specs.Shapes.{mark_text}
use Rattle.asset_picture.specs.Picture.{marks_text}
use Rattle.asset_names.proofs.MoreLemmas.{text_more}
use Rattle.asset_picture.proofs.mark_text.push_marks.Goals as goal

pub marks-init : goal.marks-init
unfolding marks_text
marks-init c = sym (append-nil (string_bytes c.args.text.now))

pub marks-preserved : goal.marks-preserved
unfolding marks_text
marks-preserved c =
    text_more (mark_text c.args.wide) c.args.marks.now c.marks.mark-index _ (string_bytes c.args.text.now) (string_bytes c.marks.text) _ c.marks-test.true c.marks.invariant c.in_ok-push_mark.ensures
