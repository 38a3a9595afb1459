use Rattle.std.proofs.Common.{false, refl}
use Rattle.asset_records.specs.Listed.{lists_in}
use Rattle.asset_objects.specs.Placed.{object_table}
use Rattle.asset_objects.proofs.PlacedLemmas.{cells_opened}
use Rattle.asset_objects.proofs.seated.SeatedObjects.over.Goals as goal

pub returns-clause-cells : goal.returns-clause-cells
returns-clause-cells c = λ opening opened. cells_opened opening c.args.placed.objects.keys c.args.placed.values.items (lists_in c.args.placed.records) false 0 opened

pub returns-clause-visits : goal.returns-clause-visits
unfolding object_table
returns-clause-visits c = refl
