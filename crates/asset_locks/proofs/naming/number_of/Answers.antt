use Rattle.std.proofs.Common.{refl, ◌∙◌}
use Rattle.asset_names.proofs.NumberLemmas.{number_found}
use Rattle.asset_locks.proofs.naming.number_of.Goals as goal

pub returns : goal.returns
returns c = c.get_index_of.ensures.index ∙ number_found _ c.args.x.0 (λ y. refl) c.args.objects.now.keys
