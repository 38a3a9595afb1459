use Rattle.std.proofs.Common.{◌<◌, length, arith}
use Rattle.asset_name_groups.proofs.GroupLemmas.{label_of_tree, flagged_shown}
use Rattle.asset_name_groups.proofs.groups.NameGroups.flag.Goals as goal

pub returns : goal.returns
returns c =
    let links = c.self.inside.links.items in
    let within : c.args.node < length links = omega (arith, rw (← c.self.view_is) at c.requires, c.self.invariant.long) in
    let first = label_of_tree links c.tree_of-tree.result c.args.node (rw c.deref.ensures.value at c.tree_of-tree.ensures.tree) (rw c.deref.ensures.value at c.tree_of-tree.ensures.root) within in
    rw (← c.self.view_is) (flagged_shown c.self.inside.names.items c.self.inside.room links c.flag_root.new.links.items c.tree_of-tree.result c.args.node first c.flag_root.ensures.labels c.flag_root.ensures.flags)
