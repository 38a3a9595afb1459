use Rattle.std.proofs.Common.{refl, sym, ap, ◌∙◌, rules}
use Rattle.asset_names.specs.Endings.{is_live_status}
use Rattle.asset_seats.specs.Seated.{seat}
use Rattle.asset_trans.specs.TransRows.{status_or_unknown, seat_or_zero}
use Rattle.asset_ends.proofs.EnrolledLemmas.{not_seated, status_of_row, seat_of_row}
use Rattle.asset_ends.proofs.seating.sitter_of.Goals as goal

pub returns-then-is_live-clause-sits : goal.returns-then-is_live-clause-sits
unfolding status_or_unknown seat_or_zero
returns-then-is_live-clause-sits c =
    let t = c.args.t in
    let live = ap is_live_status (sym (status_of_row c.args.trans.now t.0 _ c.in-Some.ensures)) ∙ sym c.if-is_live.ensures in
    (ap (seat c.args.seats.now) (seat_of_row c.args.trans.now t.0 _ c.in-Some.ensures) ∙ c.requires.seated t live, refl)

pub returns-else-is_live-clause-absent : goal.returns-else-is_live-clause-absent
unfolding status_or_unknown
returns-else-is_live-clause-absent c =
    let t = c.args.t in
    let absent = not_seated c.args.trans.now c.args.seats.now t c.requires (ap is_live_status (sym (status_of_row c.args.trans.now t.0 _ c.in-Some.ensures)) ∙ sym c.if-is_live.ensures) in
    search (absent, rules)

pub returns-else-is_live-clause-sits : goal.returns-else-is_live-clause-sits
returns-else-is_live-clause-sits c = search rules

pub returns-in-None-clause-absent : goal.returns-in-None-clause-absent
unfolding is_live_status status_or_unknown
returns-in-None-clause-absent c =
    let t = c.args.t in
    not_seated c.args.trans.now c.args.seats.now t c.requires (ap is_live_status (sym (status_of_row c.args.trans.now t.0 _ c.in-None.ensures)))
