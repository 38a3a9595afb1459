use Rattle.std.proofs.Common.{◌≡◌, ◌∙◌, ap, rules}
use Rattle.std.specs.Result.{IfOk}
use Rattle.std.proofs.lemmas.Result.{IfOk-weaker}
use Rattle.asset_names.specs.Groups.{kept, without}
use Rattle.asset_history.specs.Named.{names_of}
use Rattle.asset_deletion.specs.Going.{keeps}
use Rattle.asset_deletion.proofs.WithoutLemmas.{numbers_below, dead_marks_say, dead_left}
use Rattle.asset_deletion.proofs.deleting.without_dead.Goals as goal

pub left_by-requires-clause-below : goal.left_by-requires-clause-below
left_by-requires-clause-below c = rw (c.dead_groups.ensures.size, c.in_ok-groups.ensures.exact) (numbers_below c.args.history.now.entries)

pub left_by-requires-clause-says : goal.left_by-requires-clause-says
left_by-requires-clause-says c =
    rw c.in_ok-groups.ensures.exact (dead_marks_say c.args.history.now.entries c.dead_groups.result.now.items (λ n. rw c.in_ok-groups.ensures.exact at (c.dead_groups.ensures.dead n)))

pub returns-clause-exact : goal.returns-clause-exact
returns-clause-exact c =
    let entries = c.args.history.now.entries in
    let going = c.dead_groups.result.now.items in
    let exact : IfOk c.left_by.result (λ left. left.entries ≡ without entries (names_of entries)) =
    IfOk-weaker c.left_by.result _ _ (λ left is.
    ap (λ h. h.entries) is ∙ ap (λ groups. kept (keeps groups going) entries) c.in_ok-groups.ensures.exact
    ∙ dead_left entries going (λ n. rw c.in_ok-groups.ensures.exact at (c.dead_groups.ensures.dead n))) c.left_by.ensures in
    search (exact, rules)
