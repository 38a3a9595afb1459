use Rattle.std.proofs.Common.{◌≡◌, ℕ, is_some, sym, ap, ◌∙◌}
use Rattle.asset_seats.specs.Seated.{seat}
use Rattle.asset_permits.specs.Valid.{used_in}
use Rattle.asset_permits.proofs.SeatLemmas.{left_again}
use Rattle.asset_permits.proofs.DropLemmas.{left_are, leaves_alone, valid_left}
use Rattle.asset_permits.proofs.seating.seat_both.Goals as goal

pub returns-in-Err-clause-tied : goal.returns-in-Err-clause-tied
returns-in-Err-clause-tied c =
    let table = c.seat_for-2.new.table in
    let seats = c.seat_for-2.new.seats in
    let left = c.leave_if_unused.new.seats in
    let from = c.in_ok-from.from.at in
    let alike : (d : ℕ) → used_in table d ≡ used_in c.args.table.now d = λ d. c.seat_for-2.ensures.used d ∙ c.seat_for.ensures.used d in
    let unchanged : (d : ℕ) → seat left d ≡ seat c.args.seats.now d =
    left_again c.args.giver from c.args.table.now.permits table.permits c.args.seats.now c.seat_for.new.seats seats left c.requires.used c.in_ok-from.ensures.sits c.in-Err.ensures.unchanged alike c.leave_if_unused.ensures
    in
    valid_left table.permits seats left table.size c.seat_for-2.ensures.tied (left_are (used_in table) from from seats left (leaves_alone (used_in table) from seats left c.leave_if_unused.ensures))
    (λ d is. ap is_some (unchanged d) ∙ c.requires.used d ∙ sym (alike d) ∙ is) c.laws.ensures
