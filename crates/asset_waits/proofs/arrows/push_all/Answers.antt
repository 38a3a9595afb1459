use Rattle.std.proofs.Common.{◌∙◌, refl, sym, append-nil}
use Rattle.asset_names.specs.Steps.{applied}
use Rattle.asset_waits.specs.Deadlocks.{arrows_from, arrows_before}
use Rattle.asset_names.proofs.MoreLemmas.{number_more}
use Rattle.asset_waits.proofs.arrows.push_all.Goals as goal

pub places-init : goal.places-init
unfolding arrows_before
places-init c = record { same = refl; arrows = sym (append-nil c.args.arrows.now.items) }

pub places-preserved : goal.places-preserved
unfolding arrows_before
places-preserved c =
    let core = c.args.core.now in
    let more = rw c.places.invariant.same at c.in_ok-push_arrows_from.ensures in
    record {
      same = c.push_arrows_from.ensures.same ∙ c.places.invariant.same;
      arrows = number_more (arrows_from (applied core.history.entries) core.pending c.args.names.now.keys) c.places.place c.args.arrows.now.items c.places.arrows.items _ c.places.invariant.arrows more.arrows;
    }
