use Rattle.std.proofs.Common.{sym, ◌∙◌}
use Rattle.asset_objects.proofs.PlacedLemmas.{number_named}
use Rattle.asset_ends.proofs.tables.Tables.number_of_only.Goals as goal

pub returns-clause-number : goal.returns-clause-number
returns-clause-number c = λ x only. rw (← c.self.view_is) (c.number_of_only.ensures.number x only ∙ sym (number_named c.self.inside.parts.objects x.0))
