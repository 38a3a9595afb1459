use Rattle.std.proofs.Common.{◌<◌, length, sym, arith}
use Rattle.asset_name_groups.proofs.GroupLemmas.{flag_of_tree}
use Rattle.asset_name_groups.proofs.groups.NameGroups.is_flagged.Goals as goal

pub returns : goal.returns
returns c =
    let links = c.self.inside.links.items in
    let within : c.args.node < length links = omega (arith, rw (← c.self.view_is) at c.requires, c.self.invariant.long) in
    rw (← c.self.view_is) (sym (flag_of_tree links c.tree_of.result c.args.node (rw c.deref.ensures.value at c.tree_of.ensures.tree) (rw c.deref.ensures.value at c.tree_of.ensures.root) within))
