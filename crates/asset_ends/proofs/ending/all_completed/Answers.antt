use Rattle.std.proofs.Common.{◌∙◌, sym, ap, arith}
use Rattle.std.specs.List.{list_all}
use Rattle.std.proofs.lemmas.List.{take_all}
use Rattle.std.proofs.lemmas.Option.{slice_get-get_or}
use Rattle.asset_names.specs.Answers.{is_completed}
use Rattle.asset_trans.specs.TransRows.{status_in}
use Rattle.asset_deps.specs.Valid.{marked_in}
use Rattle.asset_ends.proofs.EndingLemmas.{one_fails, one_passes, marks_are_many}
use Rattle.asset_ends.proofs.ending.all_completed.Goals as goal
use Rattle.asset_ends.proofs.ending.all_completed.Goals.{in-Some+else-not-is_completed, in_default}

pub returns-then-not-is_completed : goal.returns-then-not-is_completed
returns-then-not-is_completed c =
    let fails = one_fails (λ n. is_completed (status_in c.args.trans.now n)) (marked_in c.args.seats.now c.args.deps.now) c.marked.index c.in-Some.t.0 (sym c.in-Some.ensures) (ap is_completed (sym c.status.ensures) ∙ sym c.if-not-is_completed.ensures) in
    cc fails

pub marked-preserved : goal.marked-preserved
marked-preserved c = elim c.match-marked_name.branch [
  | in-Some+else-not-is_completed w ↦
      one_passes (λ n. is_completed (status_in c.args.trans.now n)) (marked_in c.args.seats.now c.args.deps.now) c.marked.index w.in-Some.t.0 (sym w.in-Some.ensures) (ap is_completed (sym w.status.ensures) ∙ sym w.if-not-is_completed.ensures) c.marked.invariant
  | in_default w ↦
      let there = slice_get-get_or (marked_in c.args.seats.now c.args.deps.now) c.marked.index 0 (omega (arith, c.marked_count-index-end.ensures, c.marked-test.true, marks_are_many c.args.seats.now c.args.deps.now.marked.nodes)) in
      let none = rw w.in_default.is at c.marked_name.ensures in
      cc (there, none)
]

pub returns : goal.returns
returns c =
    let marks = marked_in c.args.seats.now c.args.deps.now in
    let many = take_all c.marked.index marks (omega (arith, c.marked_count-index-end.ensures, c.marked-test.false, marks_are_many c.args.seats.now c.args.deps.now.marked.nodes)) in
    sym (ap (list_all (λ n. is_completed (status_in c.args.trans.now n))) (sym many) ∙ c.marked.invariant)
