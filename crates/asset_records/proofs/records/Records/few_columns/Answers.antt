use Rattle.asset_records.proofs.ColumnLemmas.{few_columns, some_column}
use Rattle.asset_records.proofs.records.Records.few_columns.Goals as goal

pub returns : goal.returns
returns c = rw (← c.self.view_is) (record { some = some_column c.self.inside.records c.laws.ensures.crossed; few = few_columns c.self.inside.records c.laws.ensures.crossed })
