use Rattle.std.proofs.Common.{◌≤◌, length, reverse, refl, arith, ◌∙◌}
use Rattle.std.proofs.lemmas.List.{take_all}
use Rattle.asset_names.specs.Steps.{applied}
use Rattle.asset_names.specs.Endings.{dependencies}
use Rattle.asset_reference.specs.Sources.{outside_within}
use Rattle.asset_reference.proofs.SourceLemmas.{outside_all}
use Rattle.asset_reference.proofs.depending.has_outside_source.Goals as goal

pub entries-init : goal.entries-init
unfolding applied outside_within dependencies
entries-init c = refl

pub returns : goal.returns
returns c =
    let all : length c.args.entries.now ≤ c.entries.index = omega arith in
    (rw (take_all c.entries.index c.args.entries.now all) at c.entries.invariant) ∙ outside_all (applied (reverse c.args.entries.now)) c.args.t.0
