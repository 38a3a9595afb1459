use Rattle.std.proofs.Common.{refl, rules}
use Rattle.asset_objects.proofs.PlacedLemmas.{not_listed}
use Rattle.asset_objects.proofs.placed.Placed.add.Goals as goal

pub returns-in-Ok-clause-different : goal.returns-in-Ok-clause-different
returns-in-Ok-clause-different c = not_listed _ c.args.x.0 (λ y. refl) c.args.self.now.objects.keys c.in-Ok.is_new c.in-Ok.ensures.added

pub returns-in-Ok-clause-objects : goal.returns-in-Ok-clause-objects
returns-in-Ok-clause-objects c = search rules
