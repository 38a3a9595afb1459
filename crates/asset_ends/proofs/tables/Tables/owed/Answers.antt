use Rattle.std.proofs.Common.{◌∙◌, rules}
use Rattle.asset_ends.proofs.ShowsLemmas.{owed_shown}
use Rattle.asset_ends.proofs.tables.Tables.owed.Goals as goal

pub returns-clause-shown : goal.returns-clause-shown
returns-clause-shown c = rw (← c.self.view_is) (λ opening steps stand orderly. c.owed.ensures ∙ owed_shown opening steps _ _ _ _ _ stand orderly)

pub returns-clause-counted : goal.returns-clause-counted
returns-clause-counted c = search rules
