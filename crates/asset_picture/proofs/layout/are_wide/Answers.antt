use Rattle.std.proofs.Common.{refl, sym, ◌∙◌}
use Rattle.std.proofs.lemmas.List.Folds.{list_any_at}
use Rattle.asset_picture.specs.Layout.{is_long, are_wide}
use Rattle.asset_names.proofs.MoreLemmas.{none_more}
use Rattle.asset_picture.proofs.layout.are_wide.Goals as goal

pub marks-init : goal.marks-init
unfolding are_wide
marks-init c = refl

pub returns-then-is_long : goal.returns-then-is_long
unfolding are_wide
returns-then-is_long c = sym (list_any_at is_long c.args.marks.now c.marks.mark-index _ c.marks-test.true (sym c.is_long.ensures ∙ c.if-is_long.true))

pub marks-preserved : goal.marks-preserved
unfolding are_wide
marks-preserved c = none_more is_long c.args.marks.now c.marks.mark-index _ c.marks-test.true c.marks.invariant (sym c.is_long.ensures ∙ c.if-is_long.false)
