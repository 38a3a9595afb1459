use Rattle.std.proofs.Common.{◌∙◌, sym, ap, refl}
use Rattle.asset_names.specs.declared.statuses.End.TheVariants as End'
use Rattle.asset_locks.specs.LockTable as Locks
use Rattle.asset_ends.specs.Ended.{parts, locks_of}
use Rattle.asset_ends.specs.Standing.{tried, step_if}
use Rattle.asset_deps.specs.Dependencies.{class_in}
use Rattle.asset_deps.specs.Valid.{dependencies_in}
use Rattle.asset_ends.proofs.EnrolledLemmas.{live_sits}
use Rattle.asset_ends.proofs.EndingLemmas.{commit_stands, ended_valid, marked_live}
use Rattle.asset_ends.proofs.tables.Tables.try_commit_class.Goals as goal

pub class_may_commit-requires : goal.class_may_commit-requires
class_may_commit-requires c = record {
  seated = c.self.invariant.seats;
  tied = c.self.invariant.tied.deps;
  sits = live_sits c.self.inside.parts.trans c.self.inside.parts.seats c.args.one c.self.invariant.seats (rw (← c.self.view_is) at c.requires.seat) (rw (← c.self.view_is) at c.requires.live);
}

pub end_marked-requires-clause-live : goal.end_marked-requires-clause-live
end_marked-requires-clause-live c = marked_live c.self.inside.parts.trans c.self.inside.parts.seats c.class_may_commit.new.deps c.self.invariant.seats c.class_may_commit.ensures.tied

pub invariant_of-self : goal.invariant_of-self
invariant_of-self c =
    ended_valid _ End'.Committed _ _ c.end_marked.ensures.ended (marked_live c.self.inside.parts.trans c.self.inside.parts.seats c.class_may_commit.new.deps c.self.invariant.seats c.class_may_commit.ensures.tied) c.end_marked.ensures.tied
    (record { locks = c.self.invariant.locks; seats = c.self.invariant.seats; tied = record { objects = c.self.invariant.tied.objects; locks = c.self.invariant.tied.locks; permits = c.self.invariant.tied.permits; deps = c.class_may_commit.ensures.tied; numbers = c.self.invariant.tied.numbers } })

pub returns-then-class_may_commit-clause-tried : goal.returns-then-class_may_commit-clause-tried
unfolding tried
returns-then-class_may_commit-clause-tried c = rw (← c.self.view_is, ← c.if-class_may_commit.ensures.may) refl

pub returns-then-class_may_commit-clause-stand : goal.returns-then-class_may_commit-clause-stand
unfolding step_if
returns-then-class_may_commit-clause-stand c =
    let alive = rw (← c.self.view_is) at c.requires.live in
    let before = c.self.inside.parts in
    rw (← c.self.view_is, ← c.if-class_may_commit.ensures.may) (λ opening steps stand.
    commit_stands opening steps _ (parts before.seats before.trans before.objects before.locks before.permits c.class_may_commit.new.deps) _ c.args.one.t c.end_marked.ensures.ended
    (λ n. c.class_may_commit.ensures.marked n ∙ (λ i. class_in (sym c.class_may_commit.ensures.dependencies i) c.args.one.t.0 n)) alive (rw c.class_may_commit.ensures.dependencies stand))

pub returns-then-class_may_commit-clause-locks : goal.returns-then-class_may_commit-clause-locks
returns-then-class_may_commit-clause-locks c =
    let deps = c.self.inside.parts.deps in
    rw (← c.self.view_is, ← c.if-class_may_commit.ensures.may)
    (c.end_marked.ensures.ended.locks ∙ ap (λ test. Locks.release_in test (locks_of c.self.inside.parts)) (λ i n. (c.class_may_commit.ensures.marked n ∙ (λ j. class_in (dependencies_in deps) c.args.one.t.0 n)) i))

pub returns-else-class_may_commit-clause-tried : goal.returns-else-class_may_commit-clause-tried
unfolding tried
returns-else-class_may_commit-clause-tried c = rw (← c.self.view_is, ← c.if-class_may_commit.ensures.may) refl

pub returns-else-class_may_commit-clause-stand : goal.returns-else-class_may_commit-clause-stand
unfolding step_if
returns-else-class_may_commit-clause-stand c = rw (← c.self.view_is, ← c.if-class_may_commit.ensures.may) (λ opening steps stand. rw c.class_may_commit.ensures.dependencies stand)
