use Rattle.std.proofs.Common.{Some, is_some, sym, ap, ◌∙◌}
use Rattle.std.proofs.lemmas.Bool.{false≢true}
use Rattle.asset_deps.proofs.SeatLemmas.{on_any_none, popped, taken_last, nothing_marked}
use Rattle.asset_deps.proofs.table.SeatedDeps.next_marked_sitter.Goals as goal

pub returns-in_err-at-clause-none : goal.returns-in_err-at-clause-none
returns-in_err-at-clause-none c =
    let none = c.in_err-at.ensures.none in
    on_any_none c.from_residual.result (nothing_marked c.args.seats.now c.args.self.now.marked.nodes none.0, none.1)

pub unreachable-requires : goal.unreachable-requires
unreachable-requires c =
    let last = c.in_ok-at.ensures.last in
    false≢true (ap is_some c.in-None.ensures ∙ taken_last c.args.seats.now c.args.self.now.marked.nodes c.next_marked.new.self.marked.nodes c.in_ok-at.at c.requires.tied.taken last.0)

pub returns-clause-last : goal.returns-clause-last
returns-clause-last c =
    let last = c.in_ok-at.ensures.last in
    popped c.args.seats.now c.args.self.now.marked.nodes c.next_marked.new.self.marked.nodes c.in_ok-at.at (Some c.in-Some.t) c.requires.tied.taken c.laws.ensures.one last.0 last.1 c.in-Some.ensures

pub returns-clause-tied : goal.returns-clause-tied
returns-clause-tied c = c.next_marked.ensures.tied c.args.seats.now c.requires.tied

pub returns-clause-sits : goal.returns-clause-sits
returns-clause-sits c = sym c.in-Some.ensures
