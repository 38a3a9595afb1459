use Rattle.std.proofs.Common.{◌≡◌, length, refl, ap, arith, ◌∙◌}
use Rattle.std.specs.List.{list_any}
use Rattle.asset_names.specs.Steps.{applied}
use Rattle.asset_names.specs.Operations.{operations}
use Rattle.asset_reference.specs.Scans.{is_on}
use Rattle.asset_reference.specs.Owners.{operated_within}
use Rattle.asset_reference.proofs.OwnerLemmas.{owned_all}
use Rattle.asset_reference.proofs.holding.has_operated.Goals as goal

pub entries-init : goal.entries-init
unfolding operated_within operations applied
entries-init c = refl

pub returns : goal.returns
returns c =
    let all : c.entries.index ≡ length c.args.entries.now = omega arith in
    c.entries.invariant ∙ ap (list_any (is_on c.args.t.0 c.args.x.0)) (rw all (owned_all c.args.entries.now))
