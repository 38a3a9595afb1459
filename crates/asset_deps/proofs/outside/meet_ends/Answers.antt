use Rattle.std.proofs.Common.{◌<◌, ◌∙◌, subst, length, refl, arith}
use Rattle.asset_chains.specs.Crossed.{lines, other_side}
use Rattle.asset_marks.specs.Searched.{arrows_along, Expands}
use Rattle.asset_deps.specs.declared.kinds.Kinds.TheVariants.{Order}
use Rattle.asset_deps.specs.Reached.{of_kinds}
use Rattle.asset_deps.proofs.OutsideLemmas.{met_from_none, met_from_next, met_from_all}
use Rattle.asset_deps.proofs.outside.meet_ends.Goals as goal

pub members-init : goal.members-init
members-init c = (refl, met_from_none (arrows_along (of_kinds Order) c.args.way.now.items.now.items (lines c.args.way.now.side c.args.way.now.items.now) (lines (other_side c.args.way.now.side) c.args.way.now.items.now)) c.args.class.now.nodes c.args.found.now.nodes c.requires.none)

pub members-preserved : goal.members-preserved
members-preserved c =
    let below : c.members.next < length c.args.class.now.nodes = omega (arith, c.members-test.true, c.len.ensures.len) in
    let nodes = c.args.class.now.nodes in (
      c.expand_along.ensures.size ∙ c.members.invariant.0,
      met_from_next (arrows_along (of_kinds Order) c.args.way.now.items.now.items (lines c.args.way.now.side c.args.way.now.items.now) (lines (other_side c.args.way.now.side) c.args.way.now.items.now)) nodes c.members.found.nodes c.expand_along.new.marks.nodes c.members.next c.members.invariant.1 below
          (subst (λ k. Expands (arrows_along (of_kinds Order) c.args.way.now.items.now.items (lines c.args.way.now.side c.args.way.now.items.now) (lines (other_side c.args.way.now.side) c.args.way.now.items.now)) k c.members.found.nodes c.expand_along.new.marks.nodes) c.node.ensures.node c.expand_along.ensures.expanded),
    )

pub returns-clause-met : goal.returns-clause-met
returns-clause-met c = c.members.invariant.1.met

pub returns-clause-all : goal.returns-clause-all
returns-clause-all c = met_from_all (arrows_along (of_kinds Order) c.args.way.now.items.now.items (lines c.args.way.now.side c.args.way.now.items.now) (lines (other_side c.args.way.now.side) c.args.way.now.items.now)) c.args.class.now.nodes c.members.found.nodes c.members.next c.members.invariant.1 (omega (arith, c.members-test.false, c.len.ensures.len))
