use Rattle.std.proofs.Common.{true, false, refl, sym, ◌∙◌}
use Rattle.asset_deps.specs.Dependencies.{class_in, outside_source_in}
use Rattle.asset_ends.specs.Standing.{class_may_commit_in}
use Rattle.asset_ends.proofs.EndingLemmas.{may_by_marks}
use Rattle.asset_ends.proofs.ending.class_may_commit.Goals as goal

pub returns-then-all_completed-clause-may : goal.returns-then-all_completed-clause-may
unfolding class_may_commit_in
returns-then-all_completed-clause-may c =
    let all = may_by_marks _ _ _ _ c.args.one.t.0 true c.requires.seated c.mark_class.ensures.tied c.mark_class.ensures.marked c.if-all_completed.ensures in
    let sources = c.marked_have_outside_source.ensures c.args.one.t.0 (λ n. c.mark_class.ensures.marked n ∙ (λ i. class_in (sym c.mark_class.ensures.dependencies i) c.args.one.t.0 n)) ∙ (λ i. outside_source_in (c.mark_class.ensures.dependencies i) c.args.one.t.0) in
    rw (← all) (cc sources)

pub returns-else-all_completed-clause-may : goal.returns-else-all_completed-clause-may
unfolding class_may_commit_in
returns-else-all_completed-clause-may c =
    let none = may_by_marks _ _ _ _ c.args.one.t.0 false c.requires.seated c.mark_class.ensures.tied c.mark_class.ensures.marked c.if-all_completed.ensures in
    rw (c.if-all_completed.false, ← none) refl
