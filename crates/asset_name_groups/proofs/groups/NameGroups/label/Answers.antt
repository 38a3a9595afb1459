use Rattle.std.proofs.Common.{◌<◌, length, sym, arith}
use Rattle.asset_name_groups.proofs.LabelLemmas.{label_at}
use Rattle.asset_name_groups.proofs.GroupLemmas.{label_of_tree}
use Rattle.asset_name_groups.proofs.groups.NameGroups.label.Goals as goal

pub returns-clause-label : goal.returns-clause-label
returns-clause-label c =
    let links = c.self.inside.links.items in
    let within : c.args.node < length links = omega (arith, rw (← c.self.view_is) at c.requires, c.self.invariant.long) in
    rw (← c.self.view_is) (sym (label_of_tree links c.tree_of.result c.args.node (rw c.deref.ensures.value at c.tree_of.ensures.tree) (rw c.deref.ensures.value at c.tree_of.ensures.root) within))

pub returns-clause-least : goal.returns-clause-least
returns-clause-least c =
    let links = c.self.inside.links.items in
    let within : c.args.node < length links = omega (arith, rw (← c.self.view_is) at c.requires, c.self.invariant.long) in
    let label = label_of_tree links c.tree_of.result c.args.node (rw c.deref.ensures.value at c.tree_of.ensures.tree) (rw c.deref.ensures.value at c.tree_of.ensures.root) within in
    omega (arith, label, label_at links c.args.node within, c.self.invariant.forest.least c.args.node within)
