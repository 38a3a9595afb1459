use Rattle.std.proofs.Common.{ap, length, sym, subst, ◌∙◌, List, [], arith}
use Rattle.std.specs.Prelude.{slice_index_or}
use Rattle.slab.specs.Slab.{Slab}
use Rattle.asset_chains.specs.Chained.{Chained, home_of}
use Rattle.asset_records.specs.declared.records.Record.{Record}
use Rattle.asset_chains.specs.Crossed.{Crossed, has_room}
use Rattle.asset_chains.proofs.CrossedLemmas.{room_of_items}
use Rattle.asset_records.specs.declared.layers.Mark.{Mark}
use Rattle.asset_records.specs.Layered.{AreMarked, mark_at, fits}
use Rattle.asset_records.specs.Listed.{on, lists_in}
use Rattle.asset_records.proofs.ListedLemmas.{tied_grown, rows_more, read_more}
use Rattle.asset_records.proofs.records.Records.add_object.Goals.{in-Ok, in-Err}
use Rattle.asset_records.proofs.records.Records.add_object.Goals as goal

pub returns-clause-added : goal.returns-clause-added
returns-clause-added c = elim c.match-add.branch [
  | in-Ok w ↦ rw w.result-is (rw (← c.self.view_is) (rows_more c.self.inside.records c.add.new.self w.in-Ok.ensures.items w.in-Ok.ensures.added))
  | in-Err w ↦ rw w.result-is tt
]

pub returns-clause-tied : goal.returns-clause-tied
returns-clause-tied c = elim c.match-add.branch [
  | in-Ok w ↦
      rw (← c.self.view_is)
      (λ seats tied. tied_grown c.self.inside.records c.add.new.self seats tied (ap (λ (s : Slab Record). s.slots) w.in-Ok.ensures.items) (λ k. ap (λ (table : Chained). home_of table k) w.in-Ok.ensures.others)
      (omega (arith, ap (λ (table : Chained). length table.chains) w.in-Ok.ensures.others)))
  | in-Err w ↦ rw (← c.self.view_is) (rw w.in-Err.ensures.unchanged (λ seats tied. tied))
]

pub returns-clause-reserved : goal.returns-clause-reserved
returns-clause-reserved c = elim c.match-add.branch [
  | in-Ok w ↦ rw (← c.self.view_is) (room_of_items c.self.inside.records c.add.new.self w.in-Ok.ensures.items)
  | in-Err w ↦ rw (← c.self.view_is) (ap has_room w.in-Err.ensures.unchanged)
]

pub invariant_of-self : goal.invariant_of-self
unfolding AreMarked
invariant_of-self c = λ i. subst (λ (mark : Mark). fits mark (on (lists_in c.self.inside.records) i)) (sym (c.add_mark.ensures i)) (c.self.invariant i)

pub invariant_of-self-2 : goal.invariant_of-self-2
unfolding AreMarked on
invariant_of-self-2 c = elim c.match-add.branch [
  | in-Ok w ↦ λ i.
      subst (fits (mark_at c.add_mark.new.marks.items i)) (sym (ap (λ (lists : List (List Record)). slice_index_or lists i []) (rows_more c.self.inside.records c.add.new.self w.in-Ok.ensures.items w.in-Ok.ensures.added) ∙ read_more (lists_in c.self.inside.records) [] i))
      (subst (λ (mark : Mark). fits mark (on (lists_in c.self.inside.records) i)) (sym (c.add_mark.ensures i)) (c.self.invariant i))
  | in-Err w ↦ λ i.
      subst (λ (r : Crossed Record). fits (mark_at c.add_mark.new.marks.items i) (on (lists_in r) i)) (sym w.in-Err.ensures.unchanged)
      (subst (λ (mark : Mark). fits mark (on (lists_in c.self.inside.records) i)) (sym (c.add_mark.ensures i)) (c.self.invariant i))
]
