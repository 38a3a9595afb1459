use Rattle.std.proofs.Common.{◌≤◌, length, refl, arith}
use Rattle.std.proofs.lemmas.List.{take_all}
use Rattle.asset_names.specs.Steps.{applied, initiated}
use Rattle.asset_names.specs.Answers.{class_completed}
use Rattle.asset_reference.specs.Sources.{completes}
use Rattle.asset_reference.proofs.depending.class_completed.Goals as goal

pub entries-init : goal.entries-init
unfolding applied initiated
entries-init c = refl

pub returns : goal.returns
unfolding class_completed completes
returns c =
    let all : length c.args.entries.now ≤ c.entries.index = omega arith in
    rw (take_all c.entries.index c.args.entries.now all) at c.entries.invariant
