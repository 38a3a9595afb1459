use Rattle.std.proofs.Common.{refl}
use Rattle.asset_check.specs.Checked.{object_mistake, seen_object}
use Rattle.asset_check.specs.Checking.{seen_in}
use Rattle.asset_check.proofs.CheckerLemmas.{added_object}
use Rattle.asset_check.proofs.checker.Checker.add.Goals as goal

pub returns-then-self-clause-mistake : goal.returns-then-self-clause-mistake
unfolding seen_in object_mistake
returns-then-self-clause-mistake c =
    let shows = rw c.if-self.true at c.self.view_is in
    rw (← shows, c.bare.ensures.reason, c.bare.ensures.word) refl

pub returns-then-self-clause-seen : goal.returns-then-self-clause-seen
unfolding seen_in seen_object
returns-then-self-clause-seen c =
    let shows = rw c.if-self.true at c.self.view_is in
    rw (← shows) refl

pub returns-clause-mistake : goal.returns-clause-mistake
unfolding seen_in
returns-clause-mistake c =
    let shows = rw c.if-self.false at c.self.view_is in
    let added = c.in_ok-added.ensures in
    rw (← shows, (added_object c.self.inside.opening _ c.args.object c.args.line.now c.in_ok-added.added added.added added.grown added.kept).0) c.twice_unless.ensures

pub returns-clause-seen : goal.returns-clause-seen
unfolding seen_in
returns-clause-seen c =
    let shows = rw c.if-self.false at c.self.view_is in
    let added = c.in_ok-added.ensures in
    rw (← shows, c.if-self.false) (added_object c.self.inside.opening _ c.args.object c.args.line.now c.in_ok-added.added added.added added.grown added.kept).1
