use Rattle.std.proofs.Common.{ap, ◌∙◌}
use Rattle.asset_entries.specs.StoredSets.{StoredSet}
use Rattle.asset_entries.proofs.stored_sets.StoredSets.set.Goals as goal

pub returns : goal.returns
returns c = ap (λ (s : StoredSet). s.obs) (c.set_of.ensures ∙ c.listed_at.ensures.set)
