use Rattle.std.proofs.Common.{ap, ◌∙◌}
use Rattle.asset_names.specs.Arrows.{lists}
use Rattle.asset_marks.specs.Marked.{Met}
use Rattle.asset_deps.specs.Valid.{marked_of}
use Rattle.asset_deps.proofs.SeatLemmas.{names_left, names_not_left}
use Rattle.asset_deps.proofs.TableLemmas.{parts_of, no_arrow_of, no_mark_of, marked_left, marked_gone}
use Rattle.asset_deps.proofs.deps.Deps.end.Goals as goal

pub returns-in_default-clause-names : goal.returns-in_default-clause-names
returns-in_default-clause-names c = let inside = c.self.inside in rw (← c.self.view_is) (λ n. names_not_left inside.seats c.args.t n c.in_default.ensures.absent)

pub returns-in_default-clause-dependencies : goal.returns-in_default-clause-dependencies
returns-in_default-clause-dependencies c =
    let inside = c.self.inside in
    let p = parts_of inside.table.links inside.seats in
    let size = inside.table.size in
    let marked = inside.table.marked in
    rw (← c.self.view_is) (no_arrow_of p size marked c.self.invariant c.args.t c.in_default.ensures.absent)

pub returns-in_default-clause-marked : goal.returns-in_default-clause-marked
returns-in_default-clause-marked c =
    let inside = c.self.inside in
    let p = parts_of inside.table.links inside.seats in
    let size = inside.table.size in
    let marked = inside.table.marked in
    rw (← c.self.view_is) (no_mark_of p size marked c.self.invariant c.args.t c.in_default.ensures.absent)

pub returns-clause-names : goal.returns-clause-names
returns-clause-names c =
    let inside = c.self.inside in
    rw (← c.self.view_is) (names_left inside.seats c.leave.new.self c.in-Some.at c.args.t c.in-Some.ensures.found.0 c.in-Some.ensures.found.1 c.leave.ensures.seats)

pub returns-clause-marked : goal.returns-clause-marked
returns-clause-marked c =
    let inside = c.self.inside in
    let old = inside.table.marked.nodes in
    let fewer = c.end.new.self.marked.nodes in
    rw (← c.self.view_is) (λ n.
    ap (λ names. lists names n) (marked_left inside.seats c.leave.new.self fewer c.in-Some.at c.args.t c.in-Some.ensures.found.0 c.leave.ensures.seats (marked_gone inside.seats old fewer c.args.t c.end.ensures.marked)) ∙ c.end.ensures.marked n)

pub returns-clause-unmarked : goal.returns-clause-unmarked
returns-clause-unmarked c =
    let inside = c.self.inside in
    let old = inside.table.marked.nodes in
    let fewer = c.end.new.self.marked.nodes in
    rw (← c.self.view_is) (λ absent.
    marked_left inside.seats c.leave.new.self fewer c.in-Some.at c.args.t c.in-Some.ensures.found.0 c.leave.ensures.seats (marked_gone inside.seats old fewer c.args.t c.end.ensures.marked)
    ∙ ap (λ (m : Met). marked_of inside.seats m.nodes) (c.end.ensures.unmarked absent))
