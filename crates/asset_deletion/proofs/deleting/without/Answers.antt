use Rattle.std.proofs.Common.{◌∙◌, ap}
use Rattle.std.proofs.lemmas.Result.{IfOk-weaker}
use Rattle.asset_names.specs.Groups.{kept}
use Rattle.asset_deletion.specs.Going.{goes, keeps}
use Rattle.asset_deletion.proofs.WithoutLemmas.{numbers_below, marks_say, chosen_left}
use Rattle.asset_deletion.proofs.deleting.without.Goals as goal

pub going_with-requires : goal.going_with-requires
going_with-requires c = rw c.in_ok-groups.ensures.exact (numbers_below c.args.history.now.entries)

pub left_by-requires-clause-below : goal.left_by-requires-clause-below
left_by-requires-clause-below c = rw (c.in_ok-going.ensures.size, c.in_ok-groups.ensures.exact) (numbers_below c.args.history.now.entries)

pub left_by-requires-clause-says : goal.left_by-requires-clause-says
left_by-requires-clause-says c =
    rw c.in_ok-groups.ensures.exact
    (marks_say c.args.history.now.entries c.args.chosen.now c.in_ok-going.going.items (λ g. c.in_ok-going.ensures.marked g ∙ ap (λ groups. goes groups c.args.chosen.now g) c.in_ok-groups.ensures.exact))

pub returns-clause-exact : goal.returns-clause-exact
returns-clause-exact c =
    let entries = c.args.history.now.entries in
    let going = c.in_ok-going.going.items in
    IfOk-weaker c.left_by.result _ _ (λ left is.
    ap (λ h. h.entries) is ∙ ap (λ groups. kept (keeps groups going) entries) c.in_ok-groups.ensures.exact
    ∙ chosen_left entries c.args.chosen.now going (λ g. c.in_ok-going.ensures.marked g ∙ ap (λ groups. goes groups c.args.chosen.now g) c.in_ok-groups.ensures.exact)) c.left_by.ensures
