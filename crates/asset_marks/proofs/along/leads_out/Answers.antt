use Rattle.std.proofs.Common.{◌≡◌, ℕ, Option, Some, None, sym, ap, ◌∙◌, inl, inr}
use Rattle.slab.specs.Slab.{get}
use Rattle.asset_names.specs.Arrows.{lists as lists_node}
use Rattle.asset_chains.specs.Chained.{chain_of, home_of, lists}
use Rattle.asset_chains.specs.Crossed.{lines, other_side}
use Rattle.asset_marks.specs.Searched.{leads_to}
use Rattle.asset_marks.proofs.KeyWalkLemmas.{walk_starts, walk_steps, passed}
use Rattle.asset_marks.proofs.KeyedLemmas.{item_leads, item_of_arrow}
use Rattle.asset_marks.proofs.along.leads_out.Goals as goal
use Rattle.asset_marks.proofs.along.leads_out.Goals.{in-Some-across_from+else-not-has, in_default-across_from}

pub keys-init : goal.keys-init
keys-init g c =
    let start = walk_starts (lines c.args.way.now.side c.args.way.now.items.now) c.args.node (c.laws.ensures.crossed.sound c.args.way.now.side) c.first-next.result c.first-next.ensures in
    record { on = start.0; passed = λ k t there leads. absurd (start.1 k there) }

pub has-requires : goal.has-requires
has-requires g c =
    let way = c.args.way.now in
    let test = g.P.Pick.passes c.args.pick.now in
    let home = c.keys.invariant.on c.in-Some.key c.in-Some.is in
    c.requires c.args.node c.in-Some-across_from.other (item_leads test way.items.now.items (lines way.side way.items.now) (lines (other_side way.side) way.items.now) c.in-Some.key c.args.node c.in-Some-across_from.other home (sym c.across_from.ensures ∙ c.in-Some-across_from.is))

pub returns-then-not-has-clause-leads : goal.returns-then-not-has-clause-leads
returns-then-not-has-clause-leads g c = λ here.
    let way = c.args.way.now in
    let test = g.P.Pick.passes c.args.pick.now in
    let home = c.keys.invariant.on c.in-Some.key c.in-Some.is in (
      c.in-Some-across_from.other,
      item_leads test way.items.now.items (lines way.side way.items.now) (lines (other_side way.side) way.items.now) c.in-Some.key c.args.node c.in-Some-across_from.other home (sym c.across_from.ensures ∙ c.in-Some-across_from.is),
      sym c.has.ensures ∙ c.if-not-has.true,
    )

pub keys-smaller : goal.keys-smaller
keys-smaller g c = (walk_steps (lines c.args.way.now.side c.args.way.now.items.now) c.args.node c.in-Some.key (c.laws.ensures.crossed.sound c.args.way.now.side) _ c.next-next.result c.in-Some.is c.keys.invariant.on (c.next-next.ensures.next c.args.node)).2

pub keys-preserved : goal.keys-preserved
keys-preserved g c =
    let way = c.args.way.now in
    let test = g.P.Pick.passes c.args.pick.now in
    let stepped = walk_steps (lines c.args.way.now.side c.args.way.now.items.now) c.args.node c.in-Some.key (c.laws.ensures.crossed.sound c.args.way.now.side) _ c.next-next.result c.in-Some.is c.keys.invariant.on (c.next-next.ensures.next c.args.node) in
    elim c.match-across_from.branch [
      | in-Some-across_from+else-not-has w ↦ record {
        on = stepped.0;
        passed = λ k t there goes. elim (stepped.1 k there) [
          | inl here ↦
              let same : Some t ≡ Some w.in-Some-across_from.other = sym goes ∙ ap (λ n. leads_to test (get way.items.now.items n) (home_of (lines (other_side way.side) way.items.now) n)) here ∙ sym c.across_from.ensures ∙ w.in-Some-across_from.is in
              let is : t ≡ w.in-Some-across_from.other = cc same in
              ap (lists_node c.args.marks.now.nodes) is ∙ sym w.has.ensures ∙ w.if-not-has.false
          | inr old ↦ c.keys.invariant.passed k t old goes
        ];
      }
      | in_default-across_from w ↦ record {
        on = stepped.0;
        passed = λ k t there goes. elim (stepped.1 k there) [
          | inl here ↦
              let none : Some t ≡ None = sym goes ∙ ap (λ n. leads_to test (get way.items.now.items n) (home_of (lines (other_side way.side) way.items.now) n)) here ∙ sym c.across_from.ensures ∙ w.in_default-across_from.is in
              cc none
          | inr old ↦ c.keys.invariant.passed k t old goes
        ];
      }
    ]

pub returns-clause-met : goal.returns-clause-met
returns-clause-met g c = λ here t arrow.
    let way = c.args.way.now in
    let test = g.P.Pick.passes c.args.pick.now in
    let chain = chain_of (lines way.side way.items.now) c.args.node in
    let found = item_of_arrow test way.items.now.items (lines way.side way.items.now) (lines (other_side way.side) way.items.now) c.args.node t arrow in
    c.keys.invariant.passed found.0 t (ap (λ (o : Option ℕ). lists (passed o chain) found.0) c.in_default.is ∙ (c.laws.ensures.crossed.sound c.args.way.now.side).listed c.args.node found.0 found.1) found.2
