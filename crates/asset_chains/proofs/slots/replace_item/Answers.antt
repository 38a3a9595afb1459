use Rattle.std.proofs.Common.{◌≡◌, refl, sym, ap, ◌∙◌}
use Rattle.slab.specs.Slab.{with_value}
use Rattle.asset_chains.specs.declared.side.Side.{Side}
use Rattle.asset_chains.specs.declared.side.Side.TheVariants.{Row, Column}
use Rattle.asset_chains.specs.Slots.{links_of, values_of}
use Rattle.asset_chains.proofs.SlotLemmas.{links_kept}
use Rattle.asset_chains.proofs.CrossedLemmas.{values_set}
use Rattle.asset_chains.proofs.slots.replace_item.Goals as goal

pub returns-clause-values : goal.returns-clause-values
returns-clause-values g c =
    values_set c.args.slots.now c.args.key (record c.in-Some.slot.now { item = c.replace.new.dest }) ∙ ap (λ item. with_value (values_of c.args.slots.now) c.args.key item) c.replace.ensures.after

pub returns-clause-links : goal.returns-clause-links
returns-clause-links g c = λ side. by side where
  by : (side : Side) → links_of side (with_value c.args.slots.now c.args.key (record c.in-Some.slot.now { item = c.replace.new.dest })) ≡ links_of side c.args.slots.now
  by Row = links_kept Row c.args.slots.now c.args.key c.in-Some.slot.now (record c.in-Some.slot.now { item = c.replace.new.dest }) (sym c.in-Some.ensures.value) refl
  by Column = links_kept Column c.args.slots.now c.args.key c.in-Some.slot.now (record c.in-Some.slot.now { item = c.replace.new.dest }) (sym c.in-Some.ensures.value) refl
