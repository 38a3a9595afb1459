use Rattle.std.proofs.Common.{◌∙◌}
use Rattle.asset_ends.proofs.ShowsLemmas.{value_of_tables}
use Rattle.asset_ends.proofs.tables.Tables.value.Goals as goal

pub returns-clause-shown : goal.returns-clause-shown
returns-clause-shown c = rw (← c.self.view_is) (λ opening steps stand. c.value.ensures.value ∙ value_of_tables opening steps _ _ _ _ _ c.args.x.0 stand)
