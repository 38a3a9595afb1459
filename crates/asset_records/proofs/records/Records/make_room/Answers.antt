use Rattle.std.proofs.Common.{ap, arith}
use Rattle.slab.specs.Slab.{Slab, slab_len}
use Rattle.asset_chains.specs.declared.side.Side.TheVariants.{Column}
use Rattle.asset_chains.proofs.CrossedLemmas.{room_of_items}
use Rattle.asset_records.specs.declared.records.Record.{Record}
use Rattle.asset_records.proofs.ListedLemmas.{tied_grown, same_rows}
use Rattle.asset_records.proofs.records.Records.make_room.Goals as goal

pub returns-in-Some-clause-lists : goal.returns-in-Some-clause-lists
returns-in-Some-clause-lists c = rw (← c.self.view_is) (same_rows c.self.inside.records c.add_lines.new.items (ap (λ (s : Slab Record). s.slots) c.add_lines.ensures.items) c.add_lines.ensures.others)

pub returns-in-Some-clause-reserved : goal.returns-in-Some-clause-reserved
returns-in-Some-clause-reserved c = rw (← c.self.view_is) (room_of_items c.self.inside.records c.add_lines.new.items c.add_lines.ensures.items)

pub returns-in-Some-clause-tied : goal.returns-in-Some-clause-tied
returns-in-Some-clause-tied c =
    rw (← c.self.view_is)
    (λ seats tied. tied_grown c.self.inside.records c.add_lines.new.items seats tied c.add_lines.ensures.grown.items (c.add_lines.ensures.grown.homes Column) (c.add_lines.ensures.grown.many Column))

pub returns-in-Some-clause-few : goal.returns-in-Some-clause-few
returns-in-Some-clause-few c = rw (← c.self.view_is) (record { items = omega (arith, ap (λ (s : Slab Record). slab_len s) c.add_lines.ensures.items); columns = c.add_lines.ensures.grown.many Column })
