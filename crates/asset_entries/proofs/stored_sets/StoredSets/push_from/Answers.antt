use Rattle.std.proofs.Common.{◌++◌, [], ◌∷◌, ap, ◌∙◌}
use Rattle.asset_entries.specs.StoredSets.{StoredSet}
use Rattle.asset_entries.proofs.stored_sets.StoredSets.push_from.Goals as goal

pub returns-clause-sets : goal.returns-clause-sets
returns-clause-sets c = c.push_objects.ensures.sets ∙ ap (λ (s : StoredSet). c.args.self.now.sets ++ s ∷ []) c.listed_at.ensures.set
