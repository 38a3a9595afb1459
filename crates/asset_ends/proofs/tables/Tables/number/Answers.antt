use Rattle.std.proofs.Common.{sym, ◌∙◌}
use Rattle.asset_objects.proofs.PlacedLemmas.{number_named}
use Rattle.asset_ends.proofs.tables.Tables.number.Goals as goal

pub returns-clause-number : goal.returns-clause-number
returns-clause-number c = rw (← c.self.view_is) (c.number.ensures.number ∙ sym (number_named c.self.inside.parts.objects c.args.x.0))
