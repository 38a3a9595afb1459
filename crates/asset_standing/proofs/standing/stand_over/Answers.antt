use Rattle.std.proofs.Common.{sym, ap, ◌∙◌}
use Rattle.asset_standing.specs.Standing.{stands}
use Rattle.asset_standing.specs.Stood.{stood_of, stood_at}
use Rattle.asset_standing.proofs.standing.stand_over.Goals as goal

pub returns-in-Ok-None-clause-stood : goal.returns-in-Ok-None-clause-stood
unfolding stood_of stood_at
returns-in-Ok-None-clause-stood c = sym (ap stood_of (c.in-Ok-None.ensures.left ∙ ap (stands c.take_steps.new.core) c.in-Ok-None.field-0-is))

pub returns-in-Ok-Some-clause-stood : goal.returns-in-Ok-Some-clause-stood
unfolding stood_of stood_at
returns-in-Ok-Some-clause-stood c = sym (ap stood_of (c.in-Ok-Some.ensures.left ∙ ap (stands c.take_steps.new.core) c.in-Ok-Some.field-0-is))
