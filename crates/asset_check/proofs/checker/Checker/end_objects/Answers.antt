use Rattle.std.proofs.Common.{refl}
use Rattle.asset_names.specs.Sets.{twice, HasNoDouble}
use Rattle.asset_check.specs.Checking.{seen_in}
use Rattle.asset_check.proofs.CheckerLemmas.{objects_shown}
use Rattle.asset_check.proofs.checker.Checker.end_objects.Goals as goal

pub invariant_of-self : goal.invariant_of-self
unfolding HasNoDouble twice
invariant_of-self c = rw (c.replace.ensures.after, c.new-none.ensures) (λ m. refl)

pub returns-clause-objects : goal.returns-clause-objects
returns-clause-objects c = rw c.replace.ensures.value (objects_shown c.self.inside.stepped c.self.inside.opening c.requires.0 c.args.self.now c.self.view_is c.requires.1)

pub returns-clause-ended : goal.returns-clause-ended
unfolding seen_in
returns-clause-ended c = refl
