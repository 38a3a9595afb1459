use Rattle.std.proofs.Common.{ap, refl, sym, ◌∙◌}
use Rattle.asset_names.proofs.Common.{always_ok}
use Rattle.asset_names.specs.Endings.{is_live_status}
use Rattle.asset_ends.specs.Standing.{is_free_for}
use Rattle.asset_locks.specs.Valid.{after_ask}
use Rattle.asset_permits.specs.Valid.{permits_in}
use Rattle.asset_ends.specs.Ended.{locks_of}
use Rattle.asset_ends.proofs.TiedLemmas.{free_running, number_in_locks}
use Rattle.asset_ends.proofs.AskedLemmas.{granted_free, pending_blocked}
use Rattle.asset_ends.proofs.EnrolledLemmas.{running_enrolled, asked_enrolled, live_sits}
use Rattle.asset_ends.proofs.tables.Tables.hold.Goals as goal
use Rattle.asset_ends.proofs.tables.Tables.hold.Goals.{in-Granted, in-Pending}

pub ask-requires : goal.ask-requires
unfolding is_live_status
ask-requires c =
    let inside = c.self.inside.parts in
    let runs = rw (← c.self.view_is) at c.requires.runs in
    let sits = live_sits inside.trans inside.seats c.args.one c.self.invariant.seats (rw (← c.self.view_is) at c.requires.seat) (ap is_live_status runs) in
    record {
      tied = c.self.invariant.tied.locks;
      sits = sits;
      enrolled = running_enrolled _ _ c.args.one.t.0 c.self.invariant.locks runs;
      number = sym (number_in_locks _ _ _ _ _ c.args.x.0 c.self.invariant.tied) ∙ (rw (← c.self.view_is) at c.requires.number);
      asker = (c.self.invariant.tied.permits, sits);
    }

pub returns-in_err-ask-clause-memory : goal.returns-in_err-ask-clause-memory
unfolding is_free_for
returns-in_err-ask-clause-memory c =
    let inside = c.self.inside.parts in
    let runs = rw (← c.self.view_is) at c.requires.runs in
    rw (← c.self.view_is) (λ failed. sym (free_running inside.trans (permits_in inside.permits) (locks_of inside) c.args.one.t.0 c.args.x.0 c.args.op runs) ∙ c.in_err-ask.ensures.memory refl)

pub invariant_of-self-2 : goal.invariant_of-self-2
invariant_of-self-2 c = record {
  locks = rw c.in_ok-ask.ensures.done (asked_enrolled _ _ _ c.args.one.t.0 c.args.x c.args.op c.self.invariant.locks);
  seats = c.self.invariant.seats;
  tied = record { objects = c.self.invariant.tied.objects; locks = c.ask.ensures.tied; permits = rw c.ask.ensures.permits c.self.invariant.tied.permits; deps = c.self.invariant.tied.deps; numbers = c.ask.ensures.objects ∙ c.self.invariant.tied.numbers };
}

pub returns-clause-granted : goal.returns-clause-granted
unfolding is_free_for
returns-clause-granted c =
    let inside = c.self.inside.parts in
    let runs = rw (← c.self.view_is) at c.requires.runs in
    let same = free_running inside.trans (permits_in inside.permits) (locks_of inside) c.args.one.t.0 c.args.x.0 c.args.op runs in
    elim c.match-branch-2.branch [
      | in-Granted w ↦ rw (w.result-is, ← c.self.view_is) (sym (granted_free _ (sym c.in_ok-ask.ensures.answer ∙ w.in-Granted.is)) ∙ same)
      | in-Pending w ↦ rw (w.result-is, ← c.self.view_is) (sym (pending_blocked _ (sym c.in_ok-ask.ensures.answer ∙ w.in-Pending.is)) ∙ same)
    ]

pub returns-clause-locks : goal.returns-clause-locks
unfolding is_free_for
returns-clause-locks c =
    let inside = c.self.inside.parts in
    let runs = rw (← c.self.view_is) at c.requires.runs in
    let same = free_running inside.trans (permits_in inside.permits) (locks_of inside) c.args.one.t.0 c.args.x.0 c.args.op runs in
    rw (← c.self.view_is) (always_ok c.match-branch-2.result (c.in_ok-ask.ensures.done ∙ ap (λ is_free. after_ask is_free c.args.one.t.0 c.args.x c.args.op (locks_of inside)) same))

pub returns-in_err-ask-clause-enrolled : goal.returns-in_err-ask-clause-enrolled
returns-in_err-ask-clause-enrolled c = rw (← c.self.view_is) (running_enrolled _ _ c.args.one.t.0 c.self.invariant.locks (rw (← c.self.view_is) at c.requires.runs))

pub returns-clause-enrolled : goal.returns-clause-enrolled
returns-clause-enrolled c = rw (← c.self.view_is) (running_enrolled _ _ c.args.one.t.0 c.self.invariant.locks (rw (← c.self.view_is) at c.requires.runs))
