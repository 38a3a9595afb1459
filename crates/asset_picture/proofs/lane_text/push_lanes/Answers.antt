use Rattle.std.proofs.Common.{string_bytes, sym, append-nil}
use Rattle.asset_picture.specs.Shapes.{lane_text}
use Rattle.asset_picture.specs.Picture.{lanes_text}
use Rattle.asset_names.proofs.MoreLemmas.{text_more}
use Rattle.asset_picture.proofs.lane_text.push_lanes.Goals as goal

pub lanes-init : goal.lanes-init
unfolding lanes_text
lanes-init c = sym (append-nil (string_bytes c.args.text.now))

pub lanes-preserved : goal.lanes-preserved
unfolding lanes_text
lanes-preserved c =
    text_more (lane_text c.args.wide c.args.count) c.args.lanes.now c.lanes.lane-index _ (string_bytes c.args.text.now) (string_bytes c.lanes.text) _ c.lanes-test.true c.lanes.invariant c.in_ok-push_lane.ensures
