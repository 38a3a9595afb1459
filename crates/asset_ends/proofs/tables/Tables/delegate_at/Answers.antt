use Rattle.std.proofs.Common.{refl, sym, ◌∙◌, ap}
use Rattle.asset_names.specs.Arrows.{lists}
use Rattle.asset_ends.specs.Ended.{locks_of}
use Rattle.asset_objects.specs.Cells.{number_of}
use Rattle.asset_objects.proofs.PlacedLemmas.{number_named}
use Rattle.asset_ends.specs.Standing.{Standing, AreEnrolled}
use Rattle.asset_locks.proofs.HandLaws.{names_handed}
use Rattle.asset_ends.proofs.EnrolledLemmas.{live_enrolled}
use Rattle.asset_ends.proofs.ShowsLemmas.{live_shown}
use Rattle.asset_ends.proofs.TiedLemmas.{number_in_locks}
use Rattle.asset_ends.proofs.DelegateLaws.{delegate_shows}
use Rattle.asset_ends.proofs.StandingLemmas.{stand_as}
use Rattle.asset_ends.proofs.tables.Tables.delegate_at.Goals as goal

pub hand_over-requires-clause-giver : goal.hand_over-requires-clause-giver
hand_over-requires-clause-giver c = (live_enrolled _ _ c.args.from.t.0 c.self.invariant.locks (rw (← c.self.view_is) at c.requires.giver))

pub hand_over-requires-clause-taker : goal.hand_over-requires-clause-taker
hand_over-requires-clause-taker c = (live_enrolled _ _ c.args.to.t.0 c.self.invariant.locks (rw (← c.self.view_is) at c.requires.taker))

pub invariant_of-self-2 : goal.invariant_of-self-2
unfolding AreEnrolled
invariant_of-self-2 c = record {
  locks = rw (c.hand_over.ensures.done) (λ t. ap (λ names. lists names t) (names_handed c.args.from.t.0 c.args.to.t.0 c.args.obs.now (locks_of c.self.inside.parts)) ∙ c.self.invariant.locks t);
  seats = c.self.invariant.seats;
  tied = record { objects = c.hand_over-2.ensures.tied; locks = c.hand_over.ensures.tied; permits = c.copy_permits.ensures.tied; deps = c.self.invariant.tied.deps; numbers = c.hand_over.ensures.objects ∙ c.self.invariant.tied.numbers ∙ sym c.hand_over-2.ensures.objects };
}

pub returns-clause-stand : goal.returns-clause-stand
returns-clause-stand c =
    let gives = rw (← c.self.view_is) at c.requires.giver in
    let takes = rw (← c.self.view_is) at c.requires.taker in
    rw (← c.self.view_is) (λ opening steps stand.
    stand_as opening _ _ _ _ _ _ _ refl c.hand_over-2.ensures.cells (c.hand_over.ensures.done) refl refl
    (delegate_shows opening steps _ _ _ _ _ c.args.from.t c.args.to.t c.args.obs.now stand
    (sym (live_shown opening steps _ _ _ _ _ c.args.from.t.0 stand) ∙ gives) (sym (live_shown opening steps _ _ _ _ _ c.args.to.t.0 stand) ∙ takes)
    c.hand_over.ensures.valid (live_enrolled _ _ c.args.to.t.0 c.self.invariant.locks takes) _
    (c.in_ok-copy_permits.ensures.covers) (c.in_ok-copy_permits.ensures.opens)))

pub copy_permits-requires-clause-only : goal.copy_permits-requires-clause-only
copy_permits-requires-clause-only c = λ x only.
    c.requires.only x only
    ∙ ap (λ (s : Standing). number_of s.objects x.0) (sym c.self.view_is)
    ∙ number_in_locks _ _ _ _ _ x.0 c.self.invariant.tied

pub hand_over-requires-clause-only : goal.hand_over-requires-clause-only
hand_over-requires-clause-only c = λ x only.
    c.requires.only x only
    ∙ ap (λ (s : Standing). number_of s.objects x.0) (sym c.self.view_is)
    ∙ number_in_locks _ _ _ _ _ x.0 c.self.invariant.tied

pub hand_over-requires-2-clause-only : goal.hand_over-requires-2-clause-only
hand_over-requires-2-clause-only c = λ x only.
    c.requires.only x only
    ∙ ap (λ (s : Standing). number_of s.objects x.0) (sym c.self.view_is)
    ∙ number_named c.self.inside.parts.objects x.0
