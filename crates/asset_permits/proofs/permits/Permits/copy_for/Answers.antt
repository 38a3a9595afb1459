use Rattle.std.proofs.Common.{◌≡◌, ◌||◌, ◌&&◌, Bool, true, false, eqb, refl, sym, ap, ◌∙◌, rules}
use Rattle.std.proofs.lemmas.Bool.{false_from_ne_true}
use Rattle.asset_names.proofs.Common.{and_false}
use Rattle.asset_names.specs.Arrows.{lists}
use Rattle.asset_names.specs.Sets.{numbers}
use Rattle.asset_permits.specs.Descriptors.{stands}
use Rattle.asset_permits.specs.Valid.{parts_of, permits_in, used_in}
use Rattle.asset_permits.proofs.CopyLemmas.{standing_more}
use Rattle.asset_permits.proofs.DropLemmas.{leaves_alone}
use Rattle.asset_permits.proofs.GivingLemmas.{gives_by_nobody, gives_nothing}
use Rattle.asset_permits.proofs.NameLemmas.{seated_again}
use Rattle.asset_permits.proofs.SearchLemmas.{opener_sits}
use Rattle.asset_permits.proofs.SeatLemmas.{sits_apart, sits_keep}
use Rattle.asset_permits.proofs.TableLemmas.{no_copies}
use Rattle.asset_permits.proofs.permits.Permits.copy_for.Goals as goal

-- of one who has no seat, nothing is copied
plain : (s b : Bool) → b ≡ false → s ≡ (s || b)
plain true b none = refl
plain false b none = sym none

pub returns-in_default-clause-stands : goal.returns-in_default-clause-stands
returns-in_default-clause-stands c =
    let inside = c.self.inside in
    rw (← c.self.view_is) (λ e. plain _ _ (no_copies (parts_of inside.table.permits inside.seats) inside.table.size c.self.invariant.0 c.args.giver c.args.receiver.0 c.args.moved.now c.in_default.ensures.absent e))

pub returns-in_default-clause-covers : goal.returns-in_default-clause-covers
returns-in_default-clause-covers c =
    let inside = c.self.inside in
    let permits = permits_in inside.table in
    rw (← c.self.view_is) (λ u t x op. plain _ _
    (ap (λ b. eqb u c.args.receiver.0 && lists (numbers c.args.moved.now) x && b) (gives_nothing permits c.args.giver.0 t x op (gives_by_nobody (parts_of inside.table.permits inside.seats) inside.table.size c.self.invariant.0 c.args.giver c.in_default.ensures.absent))
    ∙ never (eqb u c.args.receiver.0 && lists (numbers c.args.moved.now) x))) where
      never : (b : Bool) → (b && false) ≡ false
      never true = refl
      never false = refl

pub returns-in_default-clause-opens : goal.returns-in_default-clause-opens
returns-in_default-clause-opens c =
    let inside = c.self.inside in
    let permits = permits_in inside.table in
    rw (← c.self.view_is) (λ u x op. plain _ _
    (ap (λ b. eqb u c.args.receiver.0 && lists (numbers c.args.moved.now) x && b)
    (false_from_ne_true _ (λ h. let sat = opener_sits (parts_of inside.table.permits inside.seats) inside.table.size c.self.invariant.0 x op c.args.giver.0 h in c.in_default.ensures.absent sat.0 sat.1))
    ∙ and_false (eqb u c.args.receiver.0 && lists (numbers c.args.moved.now) x)))

pub invariant_of-self-2 : goal.invariant_of-self-2
invariant_of-self-2 c =
    let inside = c.self.inside in
    let table = c.seat_for.new.table in
    let seats = c.seat_for.new.seats in
    let new = c.copy_for-copied.new.self in
    let left = c.leave_if_unused.new.seats in
    let to = c.in_ok-to.to in
    seated_again inside.table new inside.seats seats left to.at to.at c.self.invariant.0 c.self.invariant.1 c.laws.ensures
    c.copy_for-copied.ensures.tied c.laws-3.ensures c.laws-2.ensures.one
    (sits_keep c.args.receiver to.at inside.seats seats c.in_ok-to.ensures.sits) (λ s apart differ. sits_apart c.args.receiver to.at inside.seats seats c.in_ok-to.ensures.sits s apart)
    (λ e there. standing_more c.copy_for-copied.result (permits_in table) (permits_in new) _ c.copy_for-copied.ensures.stands c.copy_for-copied.ensures.unchanged e
    (ap (λ ds. stands ds e) c.seat_for.ensures.permits ∙ there))
    (leaves_alone (used_in new) to.at seats left c.leave_if_unused.ensures)

pub returns-clause-stands : goal.returns-clause-stands
returns-clause-stands c = search rules

pub returns-clause-covers : goal.returns-clause-covers
returns-clause-covers c = search rules

pub returns-clause-opens : goal.returns-clause-opens
returns-clause-opens c = search rules
