use Rattle.std.proofs.Common.{sym, ◌∙◌}
use Rattle.std.proofs.lemmas.Bool.{false≢true}
use Rattle.asset_names.specs.Arrows.{lists}
use Rattle.asset_name_groups.specs.NamesInGroups.{has_name}
use Rattle.asset_history.proofs.joining.node_of_known.Goals as goal

pub unreachable-requires : goal.unreachable-requires
unfolding lists has_name
unreachable-requires c = false≢true (sym c.in-None.ensures.absent ∙ c.requires)
