use Rattle.std.proofs.Common.{◌≡◌, ℕ, ◌<◌, [], Option, Some, None, refl, sym, ap, subst, ◌∙◌, inl, inr}
use Rattle.std.proofs.lemmas.List.{append-nil}
use Rattle.slab.specs.Slab.{get}
use Rattle.asset_names.specs.Arrows.{lists as lists_node}
use Rattle.asset_chains.specs.Chained.{chain_of, home_of, lists}
use Rattle.asset_chains.specs.Crossed.{lines, other_side}
use Rattle.asset_marks.specs.Searched.{arrows_along, leads_to}
use Rattle.asset_marks.proofs.KeyWalkLemmas.{walk_starts, walk_steps, passed}
use Rattle.asset_marks.proofs.KeyedLemmas.{item_leads, item_of_arrow}
use Rattle.asset_marks.proofs.WalkLemmas.{no_more, met_more, met_here, met_listed}
use Rattle.asset_marks.proofs.along.expand_along.Goals as goal
use Rattle.asset_marks.proofs.along.expand_along.Goals.{in-Some-across_from, in_default-across_from}

pub keys-init : goal.keys-init
keys-init g c =
    let start = walk_starts (lines c.args.way.now.side c.args.way.now.items.now) c.args.node (c.laws.ensures.crossed.sound c.args.way.now.side) c.first-next.result c.first-next.ensures in
    record { size = refl; on = start.0; more = record { more = []; kept = sym (append-nil c.args.marks.now.nodes); is_linked = λ t there. no_more t there }; passed = λ k t there leads. absurd (start.1 k there) }

pub keys-smaller : goal.keys-smaller
keys-smaller g c = (walk_steps (lines c.args.way.now.side c.args.way.now.items.now) c.args.node c.in-Some.key (c.laws.ensures.crossed.sound c.args.way.now.side) _ c.next-next.result c.in-Some.is c.keys.invariant.on (c.next-next.ensures.next c.args.node)).2

pub keys-preserved : goal.keys-preserved
keys-preserved g c =
    let way = c.args.way.now in
    let test = g.P.Pick.passes c.args.pick.now in
    let arrows = arrows_along test way.items.now.items (lines way.side way.items.now) (lines (other_side way.side) way.items.now) in
    let key = c.in-Some.key in
    let nodes = c.keys.marks.nodes in
    let home = c.keys.invariant.on key c.in-Some.is in
    let stepped = walk_steps (lines c.args.way.now.side c.args.way.now.items.now) c.args.node c.in-Some.key (c.laws.ensures.crossed.sound c.args.way.now.side) _ c.next-next.result c.in-Some.is c.keys.invariant.on (c.next-next.ensures.next c.args.node) in
    elim c.match-across_from.branch [
      | in-Some-across_from w ↦
          let leads : leads_to test (get way.items.now.items key) (home_of (lines (other_side way.side) way.items.now) key) ≡ Some w.in-Some-across_from.other = sym c.across_from.ensures ∙ w.in-Some-across_from.is in
          let arrow = item_leads test way.items.now.items (lines way.side way.items.now) (lines (other_side way.side) way.items.now) key c.args.node w.in-Some-across_from.other home leads in
          rw w.marks-is (record {
            size = w.meet.ensures.size ∙ c.keys.invariant.size;
            on = stepped.0;
            more = met_more arrows c.args.node c.args.marks.now.nodes nodes w.meet.new.self.nodes w.in-Some-across_from.other c.keys.invariant.more arrow w.meet.ensures.nodes;
            passed = λ k t there goes. elim (stepped.1 k there) [
              | inl here ↦
                  let same : Some t ≡ Some w.in-Some-across_from.other = sym goes ∙ ap (λ n. leads_to test (get way.items.now.items n) (home_of (lines (other_side way.side) way.items.now) n)) here ∙ leads in
                  let is : t ≡ w.in-Some-across_from.other = cc same in
                  ap (lists_node w.meet.new.self.nodes) is ∙ met_here nodes w.meet.new.self.nodes w.in-Some-across_from.other w.meet.ensures.nodes
              | inr old ↦ met_listed nodes w.meet.new.self.nodes w.in-Some-across_from.other t w.meet.ensures.nodes (c.keys.invariant.passed k t old goes)
            ];
          })
      | in_default-across_from w ↦ rw w.marks-is (record {
        size = c.keys.invariant.size;
        on = stepped.0;
        more = c.keys.invariant.more;
        passed = λ k t there goes. elim (stepped.1 k there) [
          | inl here ↦
              let none : Some t ≡ None = sym goes ∙ ap (λ n. leads_to test (get way.items.now.items n) (home_of (lines (other_side way.side) way.items.now) n)) here ∙ sym c.across_from.ensures ∙ w.in_default-across_from.is in
              cc none
          | inr old ↦ c.keys.invariant.passed k t old goes
        ];
      })
    ]

pub returns-clause-expanded : goal.returns-clause-expanded
returns-clause-expanded g c =
    let way = c.args.way.now in
    let test = g.P.Pick.passes c.args.pick.now in
    let chain = chain_of (lines way.side way.items.now) c.args.node in
    let more = c.keys.invariant.more in
    record {
      more = more.more;
      kept = more.kept;
      is_linked = more.is_linked;
      all = λ t arrow.
          let found = item_of_arrow test way.items.now.items (lines way.side way.items.now) (lines (other_side way.side) way.items.now) c.args.node t arrow in
          c.keys.invariant.passed found.0 t (ap (λ (o : Option ℕ). lists (passed o chain) found.0) c.in_default.is ∙ (c.laws.ensures.crossed.sound c.args.way.now.side).listed c.args.node found.0 found.1) found.2;
    }

pub meet-requires : goal.meet-requires
meet-requires g c =
    let way = c.args.way.now in
    let test = g.P.Pick.passes c.args.pick.now in
    let home = c.keys.invariant.on c.in-Some.key c.in-Some.is in
    let arrow = item_leads test way.items.now.items (lines way.side way.items.now) (lines (other_side way.side) way.items.now) c.in-Some.key c.args.node c.in-Some-across_from.other home (sym c.across_from.ensures ∙ c.in-Some-across_from.is) in
    subst (λ n. c.in-Some-across_from.other < n) (sym c.keys.invariant.size) (c.requires c.args.node c.in-Some-across_from.other arrow)
