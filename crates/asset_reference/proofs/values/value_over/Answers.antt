use Rattle.std.proofs.Common.{◌≡◌, w64, length, reverse, refl, ap, arith, ◌∙◌}
use Rattle.std.proofs.lemmas.Int.{to_z-of_z}
use Rattle.asset_names.specs.Steps.{applied}
use Rattle.asset_names.specs.Operations.{operations, stands, value_after}
use Rattle.asset_reference.specs.Owners.{operated_within}
use Rattle.asset_reference.proofs.OwnerLemmas.{owned_all}
use Rattle.asset_reference.proofs.values.value_over.Goals as goal

pub entries-init : goal.entries-init
unfolding operated_within operations applied value_after
entries-init c = refl

pub returns : goal.returns
returns c =
    let all : c.entries.index ≡ length c.args.entries.now = omega arith in
    let fits = to_z-of_z w64 c.args.first c.ranges.first in
    (rw fits at c.entries.invariant) ∙ ap (value_after (stands (applied (reverse c.args.entries.now))) c.args.x.0 c.args.first) (rw all (owned_all c.args.entries.now))
