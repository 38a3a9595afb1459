use Rattle.std.proofs.Common.{◌&&◌, ◌∙◌, ℕ, List, sym, ap, arith}
use Rattle.std.proofs.lemmas.List.{take_all}
use Rattle.std.proofs.lemmas.Option.{slice_get-get_or}
use Rattle.asset_names.specs.Arrows.{lists}
use Rattle.asset_trans.specs.TransRows.{status_in}
use Rattle.asset_ends.specs.Ended.{marked_by}
use Rattle.asset_ends.specs.Waits.{is_sought}
use Rattle.asset_ends.proofs.EndingLemmas.{marks_are_many}
use Rattle.asset_ends.proofs.WaitLemmas.{sought_next}
use Rattle.asset_ends.proofs.waiting.marked.Goals as goal
use Rattle.asset_ends.proofs.waiting.marked.Goals.{in-Some+in_ok-add_sought, in_default}

pub marked-init : goal.marked-init
unfolding lists
marked-init c = λ u. ap (λ (names : List ℕ). lists names u) c.new-found.ensures.empty

pub marked-preserved : goal.marked-preserved
marked-preserved c = elim c.match-marked_name.branch [
  | in-Some+in_ok-add_sought w ↦
      rw w.found-is
      (sought_next (λ u. is_sought c.args.who (status_in c.args.parts.now.trans u)) (marked_by c.args.parts.now) c.marked.found.keys w.add_sought.new.found.keys c.marked.index w.in-Some.t.0 (sym w.in-Some.ensures) c.marked.invariant w.in_ok-add_sought.ensures)
  | in_default w ↦
      let there = slice_get-get_or (marked_by c.args.parts.now) c.marked.index 0 (omega (arith, c.marked_count-index-end.ensures, c.marked-test.true, marks_are_many c.args.parts.now.seats c.args.parts.now.deps.marked.nodes)) in
      let none = rw w.in_default.is at c.marked_name.ensures in
      cc (there, none)
]

pub returns : goal.returns
returns c = λ u.
    let marks = marked_by c.args.parts.now in
    let many = take_all c.marked.index marks (omega (arith, c.marked_count-index-end.ensures, c.marked-test.false, marks_are_many c.args.parts.now.seats c.args.parts.now.deps.marked.nodes)) in
    c.marked.invariant u ∙ ap (λ (names : List ℕ). lists names u && is_sought c.args.who (status_in c.args.parts.now.trans u)) many
