use Rattle.std.proofs.Common.{◌∙◌}
use Rattle.asset_ends.proofs.tables.Tables.holds.Goals as goal

pub returns-clause-carried : goal.returns-clause-carried
returns-clause-carried c = rw (← c.self.view_is) c.carries.ensures

pub returns-clause-shown : goal.returns-clause-shown
returns-clause-shown c = rw (← c.self.view_is) (λ opening steps stand. c.carries.ensures ∙ stand.locks c.args.t.0 c.args.x.0 c.args.op)
