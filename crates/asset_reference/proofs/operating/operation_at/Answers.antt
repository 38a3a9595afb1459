use Rattle.std.proofs.Common.{◌∙◌, ◌+◌}
use Rattle.asset_reference.specs.Owners.{listed}
use Rattle.asset_reference.proofs.OwnerLemmas.{owned_more, rest_is}
use Rattle.asset_reference.proofs.operating.operation_at.Goals as goal

pub returns-then-takes_effect : goal.returns-then-takes_effect
returns-then-takes_effect c =
    owned_more c.args.entries.now c.args.index c.index-entries-index.result c.requires c.index-entries-index.is
    ∙ rw (← c.takes_effect.ensures, c.if-takes_effect.true, c.operation_of.ensures, rest_is c.args.entries.now (c.args.index + 1))

pub returns-else-takes_effect : goal.returns-else-takes_effect
unfolding listed
returns-else-takes_effect c =
    owned_more c.args.entries.now c.args.index c.index-entries-index.result c.requires c.index-entries-index.is
    ∙ rw (← c.takes_effect.ensures, c.if-takes_effect.false)
