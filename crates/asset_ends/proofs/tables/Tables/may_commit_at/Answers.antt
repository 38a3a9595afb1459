use Rattle.asset_ends.proofs.EnrolledLemmas.{live_sits}
use Rattle.asset_ends.proofs.EndingLemmas.{completed_may}
use Rattle.asset_ends.proofs.tables.Tables.may_commit_at.Goals as goal

pub class_may_commit-requires : goal.class_may_commit-requires
class_may_commit-requires c = record {
  seated = c.self.invariant.seats;
  tied = c.self.invariant.tied.deps;
  sits = live_sits c.self.inside.parts.trans c.self.inside.parts.seats c.args.one c.self.invariant.seats (rw (← c.self.view_is) at c.requires.seat) (rw (← c.self.view_is) at c.requires.live);
}

pub invariant_of-self : goal.invariant_of-self
invariant_of-self c = record { locks = c.self.invariant.locks; seats = c.self.invariant.seats; tied = record { objects = c.self.invariant.tied.objects; locks = c.self.invariant.tied.locks; permits = c.self.invariant.tied.permits; deps = c.class_may_commit.ensures.tied; numbers = c.self.invariant.tied.numbers } }

pub returns-then-not-is_linked-clause-may : goal.returns-then-not-is_linked-clause-may
returns-then-not-is_linked-clause-may c =
    let alive = rw (← c.self.view_is) at c.requires.live in
    let alone = c.is_linked.ensures.alone c.if-not-is_linked.true in
    let none = c.is_linked.ensures.no_source c.if-not-is_linked.true in
    rw (← c.self.view_is) (completed_may _ _ _ _ _ c.is_completed.ensures (rw (← c.self.view_is) at c.requires.status) alive (λ n. (alone n).0) none)
