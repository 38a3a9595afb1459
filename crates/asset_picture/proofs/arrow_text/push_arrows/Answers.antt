use Rattle.std.proofs.Common.{string_bytes, sym, append-nil}
use Rattle.asset_picture.specs.Shapes.{arrow_text}
use Rattle.asset_picture.specs.Picture.{arrows_text}
use Rattle.asset_names.proofs.MoreLemmas.{text_more}
use Rattle.asset_picture.proofs.arrow_text.push_arrows.Goals as goal

pub arrows-init : goal.arrows-init
unfolding arrows_text
arrows-init c = sym (append-nil (string_bytes c.args.text.now))

pub arrows-preserved : goal.arrows-preserved
unfolding arrows_text
arrows-preserved c =
    text_more (arrow_text c.args.wide) c.args.arrows.now c.arrows.arrow-index _ (string_bytes c.args.text.now) (string_bytes c.arrows.text) _ c.arrows-test.true c.arrows.invariant c.in_ok-push_arrow.ensures
