use Rattle.std.proofs.Common.{◌∙◌, rules}
use Rattle.asset_ends.proofs.ShowsLemmas.{ended_shown}
use Rattle.asset_ends.proofs.tables.Tables.ended.Goals as goal

pub returns-clause-shown : goal.returns-clause-shown
returns-clause-shown c = rw (← c.self.view_is) (λ opening steps stand orderly. c.ended.ensures ∙ ended_shown c.args.how opening steps _ _ _ _ _ stand orderly)

pub returns-clause-counted : goal.returns-clause-counted
returns-clause-counted c = search rules
