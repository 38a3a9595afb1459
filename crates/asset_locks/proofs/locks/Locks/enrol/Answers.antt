use Rattle.std.proofs.Common.{is_some, sym, ap, subst, ◌∙◌}
use Rattle.std.specs.Prelude.{IsOk}
use Rattle.std.proofs.lemmas.Bool.{false≢true}
use Rattle.asset_locks.specs.LockTable.{LockTable, enrolled_in}
use Rattle.asset_names.specs.declared.names.Txn.{Txn}
use Rattle.asset_locks.specs.Tied.{LockParts, rows_in, SittersAreEnrolled}
use Rattle.asset_locks.proofs.EnrolledLemmas.{enrolled_more, enrolled_either}
use Rattle.asset_locks.proofs.SeatLemmas.{seat_of_enrolled}
use Rattle.asset_locks.proofs.locks.Locks.enrol.Goals as goal

pub returns-in_err-sitter-clause-again : goal.returns-in_err-sitter-clause-again
returns-in_err-sitter-clause-again c = λ there.
    let inside = c.self.inside in
    let at = seat_of_enrolled inside.table inside.seats c.self.invariant.0 c.laws.ensures.order c.args.t (ap (λ (table : LockTable). is_some (enrolled_in table c.args.t.0)) c.self.view_is ∙ there) in
    absurd (false≢true (subst IsOk c.in_err-sitter.was (c.seat_for.ensures.standing at.0 at.1)))

pub invariant_of-self-2 : goal.invariant_of-self-2
invariant_of-self-2 c =
    let inside = c.self.inside in
    let seats = c.seat_for.new.seats in
    let rows = rows_in seats c.seat_for.new.table in
    let more = rows_in seats c.enrol.new.self in
    let stay = enrolled_either rows more c.in_ok-sitter.sitter.t.0 c.enrol.ensures.done (λ there. ap (λ (table : LockParts). rows_in seats table) (c.enrol.ensures.again there)) in
    let here = ap (λ (t : Txn). is_some (enrolled_in more t.0)) (sym c.in_ok-sitter.ensures.name) ∙ c.enrol.ensures.enrolled in
    (c.enrol.ensures.tied, enrolled_more inside.seats seats rows more c.args.t c.in_ok-sitter.ensures.others stay here (subst (λ (l : LockTable). SittersAreEnrolled inside.seats l) (sym c.seat_for.ensures.rows) c.self.invariant.1), c.enrol.ensures.objects ∙ c.seat_for.ensures.objects ∙ c.self.invariant.2)
