use Rattle.std.proofs.Common.{◌≡◌, not, length, reverse, refl, ap, arith, ◌∙◌}
use Rattle.std.specs.List.{list_any}
use Rattle.asset_names.specs.Steps.{applied}
use Rattle.asset_names.specs.Operations.{operations, blocks, free}
use Rattle.asset_reference.specs.Owners.{operated_within}
use Rattle.asset_reference.proofs.OwnerLemmas.{owned_all}
use Rattle.asset_reference.proofs.freedom.is_free.Goals as goal

pub entries-init : goal.entries-init
unfolding operated_within operations applied
entries-init c = refl

pub returns : goal.returns
unfolding free
returns c =
    let all : c.entries.index ≡ length c.args.entries.now = omega arith in
    ap not (c.entries.invariant ∙ ap (list_any (blocks (applied (reverse c.args.entries.now)) c.args.t.0 c.args.x.0 c.args.op)) (rw all (owned_all c.args.entries.now)))
