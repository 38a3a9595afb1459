use Rattle.std.proofs.Common.{◌∙◌, sym}
use Rattle.std.proofs.lemmas.List.{length-map}
use Rattle.asset_deps.specs.Valid.{marked_of, name_at}
use Rattle.asset_deps.proofs.deps.Deps.marked_count.Goals as goal

pub returns : goal.returns
unfolding marked_of
returns c = let inside = c.self.inside in rw (← c.self.view_is) (c.marked_count.ensures ∙ sym (length-map inside.table.marked.nodes (name_at inside.seats)))
