use Rattle.std.proofs.Common.{Option, sym, ap, subst, ◌∙◌}
use Rattle.asset_lists.specs.declared.part.Part.{Part}
use Rattle.asset_lists.specs.declared.part.Section.TheVariants.{Front, Middle}
use Rattle.asset_lists.specs.Parted.{advanced, part_of, IsChangedAt}
use Rattle.asset_lists.proofs.Laws.{changed_not, changed_twice}
use Rattle.asset_lists.proofs.RowLemmas.{some_part}
use Rattle.asset_lists.proofs.table.KeyLists.advance.Goals as goal

pub returns-in-Front : goal.returns-in-Front
unfolding advanced
returns-in-Front c =
    let is = sym c.part.ensures ∙ c.in-Some.is in
    changed_not c.args.key (advanced (part_of c.args.self.now c.args.key)) c.args.self.now (is ∙ ap (some_part c.in-Some.part.list) c.in-Front.is ∙ sym (ap advanced is))

pub returns-in-Middle : goal.returns-in-Middle
unfolding advanced
returns-in-Middle c =
    let is = sym c.part.ensures ∙ c.in-Some.is in
    subst (λ (o : Option Part). IsChangedAt c.args.key (advanced o) c.args.self.now c.raise_again.new.self) (sym is) c.raise_again.ensures

pub returns-in-Back : goal.returns-in-Back
unfolding advanced
returns-in-Back c =
    let is = sym c.part.ensures ∙ c.in-Some.is in
    subst (λ (o : Option Part). IsChangedAt c.args.key (advanced o) c.args.self.now c.raise_again-in-Back.new.self) (sym is)
    (changed_twice c.args.key (some_part c.in-Some.part.list Middle) (some_part c.in-Some.part.list Front) c.args.self.now c.raise.new.self c.raise_again-in-Back.new.self c.raise.ensures c.raise_again-in-Back.ensures)

pub returns-in_default : goal.returns-in_default
unfolding advanced
returns-in_default c =
    let is = sym c.part.ensures ∙ c.in_default.is in
    changed_not c.args.key (advanced (part_of c.args.self.now c.args.key)) c.args.self.now (is ∙ sym (ap advanced is))
