use Rattle.std.proofs.Common.{◌≡◌, cond, eqb, not, ◌&&◌, Option, None, Ok, Err, IsOk, ap, ◌∙◌, rules}
use Rattle.std.specs.Prelude.{Result}
use Rattle.std.proofs.lemmas.Bool.{false≢true}
use Rattle.asset_names.specs.declared.names.Txn.{Txn}
use Rattle.asset_names.proofs.Common.{on_err}
use Rattle.asset_permits.specs.Descriptors.{Descriptor, named_permit, stands}
use Rattle.asset_permits.specs.Valid.{parts_of, permits_in, used_in}
use Rattle.asset_permits.proofs.CopyLemmas.{standing_more}
use Rattle.asset_permits.proofs.NameLemmas.{seated_again}
use Rattle.asset_permits.proofs.SearchLemmas.{has_across}
use Rattle.asset_permits.proofs.SlotLemmas.{key_of_standing}
use Rattle.asset_permits.proofs.permits.Permits.add.Goals as goal

never : {T E : Type 0} (r : Result T E) (e : E) → IsOk r → r ≡ Err e → ⊥
never (Ok v) e ok is = cc is
never (Err x) e ok is = false≢true ok

-- one that stands has both seats
pub returns-in_err-from-clause-again : goal.returns-in_err-from-clause-again
returns-in_err-from-clause-again c = λ there.
    let inside = c.self.inside in
    let d : Descriptor = named_permit c.args.giver.0 c.args.taker.0 c.args.objects c.args.ops in
    let at = key_of_standing inside.table.permits.items d (ap (λ ds. stands ds d) c.self.view_is ∙ there) in
    let across = has_across (parts_of inside.table.permits inside.seats) inside.table.size c.self.invariant.0 at.0 d at.1 in
    absurd (never c.seat_both.result _ (c.seat_both.ensures.standing across.from across.to across.giver across.taker) c.in_err-from.was)

pub invariant_of-self-2 : goal.invariant_of-self-2
invariant_of-self-2 c =
    let inside = c.self.inside in
    let both = c.seat_both.new in
    let new = c.add-added.new.self in
    let from = c.in_ok-from.from in
    let to = c.in_ok-from.to in
    seated_again inside.table new inside.seats both.seats c.leave_if_unused-2.new.seats from.at to.at c.self.invariant.0 c.self.invariant.1 c.laws.ensures
    c.add-added.ensures.tied c.laws-3.ensures c.laws-2.ensures.one c.in_ok-from.ensures.sit.kept c.in_ok-from.ensures.sit.others
    (λ e there. standing_more c.add-added.result (permits_in both.table) (permits_in new) _ c.add-added.ensures.stands (on_err c.add-added.result (λ same. λ k. ap (λ ds. stands ds k) same) c.add-added.ensures.unchanged) e
    (ap (λ ds. stands ds e) c.seat_both.ensures.permits ∙ there))
    (λ s. c.leave_if_unused-2.ensures s ∙ ap (λ (o : Option Txn). cond (eqb s to.at && not (used_in new s)) None o) (c.leave_if_unused.ensures s))

pub returns-clause-stands : goal.returns-clause-stands
returns-clause-stands c = search rules

pub returns-clause-covers : goal.returns-clause-covers
returns-clause-covers c = search rules

pub returns-clause-again : goal.returns-clause-again
returns-clause-again c = search rules

pub returns-clause-opens : goal.returns-clause-opens
returns-clause-opens c = search rules
