use Rattle.std.proofs.Common.{◌≡◌, ◌<◌, ◌++◌, [], ◌∷◌, Some, false, length, ap, ◌∙◌, ◌+ℤ◌, w64, arith}
use Rattle.std.specs.Prelude.{slice_set}
use Rattle.std.proofs.lemmas.Bool.{false≢true}
use Rattle.std.proofs.lemmas.Int.{to_z-of_z, wrapping_add_is}
use Rattle.std.proofs.lemmas.List.{length-set}
use Rattle.asset_records.specs.declared.records.Record.{Record}
use Rattle.asset_records.specs.declared.records.Record.TheVariants.{Add}
use Rattle.asset_records.specs.Listed.{on, ChangesOn, record_of}
use Rattle.asset_records.specs.Listed.{lists_in}
use Rattle.asset_objects.specs.Cells.{cells, increased, change_at}
use Rattle.asset_objects.specs.Placed.{word, value_at, recorded_cell, ObjectParts, objects_in}
use Rattle.asset_names.specs.Numbered.{number_in}
use Rattle.asset_objects.proofs.CellLemmas.{cell_increased}
use Rattle.asset_objects.proofs.PlacedLemmas.{read_value, update_cells, one_changed}
use Rattle.asset_names.proofs.NumberLemmas.{number_reads}
use Rattle.asset_objects.proofs.seated.SeatedObjects.add.Goals as goal

pub index-before-requires : goal.index-before-requires
index-before-requires c = omega (arith, c.requires.exists, ap (λ (p : ObjectParts). length p.objects) c.self.view_is, c.self.invariant.valued)

pub push-requires-clause-reserved : goal.push-requires-clause-reserved
push-requires-clause-reserved c = c.self.invariant.room (ap (λ (p : ObjectParts). p.reserved) c.self.view_is ∙ c.requires.reserved)

pub invariant_of-self : goal.invariant_of-self
unfolding ChangesOn
invariant_of-self c =
    let placed = c.self.inside.placed in
    record {
      valued = length-set placed.values.items c.args.number _ ∙ c.self.invariant.valued;
      many = c.push.ensures.pushed.0 ∙ c.self.invariant.many;
      room = λ reserved. absurd (false≢true reserved);
    }

pub returns-clause-cells : goal.returns-clause-cells
unfolding record_of
returns-clause-cells c = λ x there.
    let placed = c.self.inside.placed in
    let i = c.args.number in
    let at_number : number_in placed.objects.keys x ≡ Some i = ap (λ (p : ObjectParts). number_in p.objects x) c.self.view_is ∙ there in
    let within : i < length placed.values.items = omega (arith, (number_reads placed.objects.keys x i at_number).0, c.self.invariant.valued) in
    let before = c.index-before.result.now in
    let at : before ≡ value_at placed.values.items i = read_value placed.values.items i before within c.index-before.ensures in
    let sum = wrapping_add_is w64 before c.args.amount (grind arith) c.ranges.amount in
    let fits = to_z-of_z w64 c.args.amount c.ranges.amount in
    let last : Record = Add c.args.owner.t c.args.amount in
    let pushed : ChangesOn i (on (lists_in placed.records) i ++ last ∷ []) (lists_in placed.records) (lists_in c.push.new.self) = rw fits at c.push.ensures.pushed in
    let change = increased c.args.owner.t.0 c.args.amount in
    rw sum (one_changed change x i placed.objects.keys placed.values.items (slice_set placed.values.items i (word (before +ℤ c.args.amount))) (lists_in placed.records) (lists_in c.push.new.self)
    c.self.inside.reserved false c.self.inside.visits c.self.inside.visits at_number
    (update_cells change placed.values.items (lists_in placed.records) (lists_in c.push.new.self) i last (word (before +ℤ c.args.amount)) within
    (λ records. cell_increased records c.args.owner.t c.args.amount before ∙ (λ k. increased c.args.owner.t.0 c.args.amount (recorded_cell records (at k)))) pushed)
    ∙ ap (λ table. change_at x change (cells table)) (ap objects_in c.self.view_is))
