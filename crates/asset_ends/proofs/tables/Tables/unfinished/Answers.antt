use Rattle.std.proofs.Common.{◌&&◌, ℕ, not, List, ap, ◌∙◌}
use Rattle.asset_names.specs.declared.names.Txn.{Txn}
use Rattle.asset_names.specs.Answers.{is_completed}
use Rattle.asset_names.specs.Arrows.{lists}
use Rattle.asset_trans.specs.TransRows.{status_in}
use Rattle.asset_ends.specs.Waits.{is_unfinished, is_sought}
use Rattle.asset_ends.proofs.WaitLemmas.{if_ok_as, unfinished_shown, none_unfinished, live_by_seat, dead_by_seat}
use Rattle.asset_ends.proofs.tables.Tables.unfinished.Goals as goal

pub returns-in-Some-clause-shown : goal.returns-in-Some-clause-shown
unfolding is_sought
returns-in-Some-clause-shown c =
    let inside = c.self.inside.parts in
    let one = c.in-Some.one in
    rw (← c.self.view_is)
    (if_ok_as c.marked.result (λ found named opening steps stand u.
    let alive = live_by_seat opening steps _ _ _ _ _ inside.seats one.at one.t stand c.self.invariant.seats c.in-Some.ensures.sits.0 in
    named u
    ∙ ap (λ b. b && not (is_completed (status_in inside.trans u))) (c.mark_class.ensures.marked u)
    ∙ unfinished_shown opening steps _ _ _ _ _ one.t.0 u stand alive
    ∙ ap (λ (t : Txn). is_unfinished steps t.0 u) c.in-Some.ensures.sits.1) c.marked.ensures)

pub returns-in-None-clause-shown : goal.returns-in-None-clause-shown
unfolding lists
returns-in-None-clause-shown c =
    let inside = c.self.inside.parts in
    rw (← c.self.view_is)
    (λ opening steps stand u.
    ap (λ (names : List ℕ). lists names u) c.new.ensures.empty ∙ none_unfinished steps c.args.t.0 u (dead_by_seat opening steps _ _ _ _ _ inside.seats c.args.t stand c.self.invariant.seats c.in-None.ensures.absent))
