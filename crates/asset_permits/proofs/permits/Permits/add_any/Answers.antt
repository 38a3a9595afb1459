use Rattle.std.proofs.Common.{◌≡◌, Ok, Err, IsOk, ap, ◌∙◌, rules}
use Rattle.std.specs.Prelude.{Result}
use Rattle.std.proofs.lemmas.Bool.{false≢true}
use Rattle.asset_names.specs.declared.sets.ObSet.TheVariants.{Listed}
use Rattle.asset_names.proofs.Common.{on_err}
use Rattle.asset_permits.specs.Descriptors.{Descriptor, open_permit, stands}
use Rattle.asset_permits.specs.Valid.{parts_of, permits_in, used_in}
use Rattle.asset_permits.proofs.CopyLemmas.{standing_more}
use Rattle.asset_permits.proofs.DropLemmas.{leaves_alone}
use Rattle.asset_permits.proofs.NameLemmas.{seated_again}
use Rattle.asset_permits.proofs.SearchLemmas.{has_across}
use Rattle.asset_permits.proofs.SeatLemmas.{sits_apart, sits_keep}
use Rattle.asset_permits.proofs.SlotLemmas.{key_of_standing}
use Rattle.asset_permits.proofs.permits.Permits.add_any.Goals as goal

never : {T E : Type 0} (r : Result T E) (e : E) → IsOk r → r ≡ Err e → ⊥
never (Ok v) e ok is = cc is
never (Err x) e ok is = false≢true ok

-- the giver of one that stands has a seat
pub returns-in_err-from-clause-again : goal.returns-in_err-from-clause-again
returns-in_err-from-clause-again c = λ there.
    let inside = c.self.inside in
    let d : Descriptor = open_permit c.args.giver.0 (Listed c.args.objects) c.args.ops in
    let at = key_of_standing inside.table.permits.items d (ap (λ ds. stands ds d) c.self.view_is ∙ there) in
    let across = has_across (parts_of inside.table.permits inside.seats) inside.table.size c.self.invariant.0 at.0 d at.1 in
    absurd (never c.seat_for.result _ (c.seat_for.ensures.standing across.from across.giver) c.in_err-from.was)

pub invariant_of-self-2 : goal.invariant_of-self-2
invariant_of-self-2 c =
    let inside = c.self.inside in
    let seats = c.seat_for.new.seats in
    let table = c.seat_for.new.table in
    let new = c.add_any-added.new.self in
    let left = c.leave_if_unused.new.seats in
    let from = c.in_ok-from.from in
    seated_again inside.table new inside.seats seats left from.at from.at c.self.invariant.0 c.self.invariant.1 c.laws.ensures
    c.add_any-added.ensures.tied c.laws-3.ensures c.laws-2.ensures.one
    (sits_keep c.args.giver from.at inside.seats seats c.in_ok-from.ensures.sits) (λ s apart differ. sits_apart c.args.giver from.at inside.seats seats c.in_ok-from.ensures.sits s apart)
    (λ e there. standing_more c.add_any-added.result (permits_in table) (permits_in new) _ c.add_any-added.ensures.stands (on_err c.add_any-added.result (λ same. λ k. ap (λ ds. stands ds k) same) c.add_any-added.ensures.unchanged) e
    (ap (λ ds. stands ds e) c.seat_for.ensures.permits ∙ there))
    (leaves_alone (used_in new) from.at seats left c.leave_if_unused.ensures)

pub returns-clause-stands : goal.returns-clause-stands
returns-clause-stands c = search rules

pub returns-clause-covers : goal.returns-clause-covers
returns-clause-covers c = search rules

pub returns-clause-opens : goal.returns-clause-opens
returns-clause-opens c = search rules

pub returns-clause-again : goal.returns-clause-again
returns-clause-again c = search rules
