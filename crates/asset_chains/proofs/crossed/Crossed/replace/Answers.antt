use Rattle.std.proofs.Common.{ap, ◌∙◌, rules}
use Rattle.asset_chains.specs.declared.side.Side.TheVariants.{Row, Column}
use Rattle.asset_chains.specs.Linked.{seen}
use Rattle.asset_chains.proofs.SlotLemmas.{value_some}
use Rattle.asset_chains.proofs.CrossedLemmas.{crossed_kept}
use Rattle.asset_chains.proofs.crossed.Crossed.replace.Goals as goal

pub replace_item-requires : goal.replace_item-requires
replace_item-requires g c = search (rules, value_some)

pub invariant_of-self : goal.invariant_of-self
invariant_of-self g c =
    let s = c.self.inside in
    let was = c.replace_item in
    crossed_kept s.slots was.new.slots s.rows.items s.columns.items c.self.invariant (was.ensures.links Row) (was.ensures.links Column) was.ensures.there

pub returns-clause-rows : goal.returns-clause-rows
returns-clause-rows g c = ap (λ l. seen l c.self.inside.rows.items) (c.replace_item.ensures.links Row) ∙ ap (λ t. t.rows) c.self.view_is

pub returns-clause-columns : goal.returns-clause-columns
returns-clause-columns g c = ap (λ l. seen l c.self.inside.columns.items) (c.replace_item.ensures.links Column) ∙ ap (λ t. t.columns) c.self.view_is
