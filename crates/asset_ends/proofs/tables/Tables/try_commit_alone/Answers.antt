use Rattle.std.proofs.Common.{rules, ◌∙◌, sym, ap, refl}
use Rattle.asset_names.specs.declared.statuses.End.TheVariants as End'
use Rattle.asset_names.proofs.Common.{eqb-flip}
use Rattle.asset_locks.specs.LockTable as Locks
use Rattle.asset_ends.specs.Ended.{locks_of}
use Rattle.asset_ends.specs.Standing.{tried, step_if}
use Rattle.asset_deps.specs.Dependencies.{class_in}
use Rattle.asset_deps.specs.Valid.{dependencies_in}
use Rattle.asset_ends.proofs.EnrolledLemmas.{live_sits}
use Rattle.asset_ends.proofs.EndingLemmas.{commit_stands, ended_valid, one_live, completed_may}
use Rattle.asset_ends.proofs.tables.Tables.try_commit_alone.Goals as goal

pub end_one-requires : goal.end_one-requires
end_one-requires c = record { live = rw (← c.self.view_is) at c.requires.live; tied = c.self.invariant.tied; sits = live_sits c.self.inside.parts.trans c.self.inside.parts.seats c.args.one c.self.invariant.seats (rw (← c.self.view_is) at c.requires.seat) (rw (← c.self.view_is) at c.requires.live) }

pub invariant_of-self : goal.invariant_of-self
invariant_of-self c =
    ended_valid _ End'.Committed _ _ c.end_one.ensures.ended (one_live _ c.args.one.t.0 (rw (← c.self.view_is) at c.requires.live)) c.end_one.ensures.tied c.self.invariant

pub returns-then-is_completed-clause-tried : goal.returns-then-is_completed-clause-tried
unfolding tried
returns-then-is_completed-clause-tried c =
    rw (← completed_may _ _ _ _ _ c.if-is_completed.ensures c.requires.status c.requires.live c.requires.alone c.requires.no_source) refl

pub returns-then-is_completed-clause-stand : goal.returns-then-is_completed-clause-stand
unfolding step_if
returns-then-is_completed-clause-stand c =
    let may = completed_may _ _ _ _ _ c.if-is_completed.ensures c.requires.status c.requires.live c.requires.alone c.requires.no_source in
    let alive = rw (← c.self.view_is) at c.requires.live in
    let alone = rw (← c.self.view_is) at c.requires.alone in
    let deps = dependencies_in c.self.inside.parts.deps in
    rw (← may) (rw (← c.self.view_is) (λ opening steps stand.
    commit_stands opening steps _ c.self.inside.parts _ c.args.one.t c.end_one.ensures.ended (λ n. eqb-flip n c.args.one.t.0 ∙ sym (alone n) ∙ (λ i. class_in deps c.args.one.t.0 n)) alive stand))

pub returns-then-is_completed-clause-locks : goal.returns-then-is_completed-clause-locks
returns-then-is_completed-clause-locks c =
    let may = completed_may _ _ _ _ _ c.if-is_completed.ensures c.requires.status c.requires.live c.requires.alone c.requires.no_source in
    let alone = rw (← c.self.view_is) at c.requires.alone in
    let deps = dependencies_in c.self.inside.parts.deps in
    rw (← may) (rw (← c.self.view_is) (c.end_one.ensures.ended.locks
    ∙ ap (λ test. Locks.release_in test (locks_of c.self.inside.parts)) (λ i n. (eqb-flip n c.args.one.t.0 ∙ sym (alone n) ∙ (λ j. class_in deps c.args.one.t.0 n)) i)))

pub returns-else-is_completed-clause-tried : goal.returns-else-is_completed-clause-tried
unfolding tried
returns-else-is_completed-clause-tried c =
    rw (← completed_may _ _ _ _ _ c.if-is_completed.ensures c.requires.status c.requires.live c.requires.alone c.requires.no_source) refl

pub returns-else-is_completed-clause-stand : goal.returns-else-is_completed-clause-stand
unfolding step_if
returns-else-is_completed-clause-stand c =
    rw (← completed_may _ _ _ _ _ c.if-is_completed.ensures c.requires.status c.requires.live c.requires.alone c.requires.no_source) (λ opening steps stand. stand)

pub returns-else-is_completed-clause-locks : goal.returns-else-is_completed-clause-locks
returns-else-is_completed-clause-locks c =
    rw (← completed_may _ _ _ _ _ c.if-is_completed.ensures c.requires.status c.requires.live c.requires.alone c.requires.no_source) refl

pub returns-then-is_completed-clause-still : goal.returns-then-is_completed-clause-still
returns-then-is_completed-clause-still c =
    let may = completed_may _ _ _ _ _ c.if-is_completed.ensures c.requires.status c.requires.live c.requires.alone c.requires.no_source in
    rw (← may) (search rules)
