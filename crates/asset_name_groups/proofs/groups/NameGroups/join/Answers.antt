use Rattle.std.proofs.Common.{◌<◌, length, arith}
use Rattle.asset_name_groups.proofs.GroupLemmas.{label_of_tree, joined_shown, joined_already}
use Rattle.asset_name_groups.proofs.groups.NameGroups.join.Goals as goal

pub returns-then-a-b : goal.returns-then-a-b
returns-then-a-b c =
    let links = c.self.inside.links.items in
    let one : c.args.i < length links = omega (arith, rw (← c.self.view_is) at c.requires.first, c.self.invariant.long) in
    let other : c.args.j < length links = omega (arith, rw (← c.self.view_is) at c.requires.second, c.self.invariant.long) in
    let a = label_of_tree links c.tree_of-a.result c.args.i (rw c.deref.ensures.value at c.tree_of-a.ensures.tree) (rw c.deref.ensures.value at c.tree_of-a.ensures.root) one in
    let b = label_of_tree links c.tree_of-b.result c.args.j (rw c.deref-2.ensures.value at c.tree_of-b.ensures.tree) (rw c.deref-2.ensures.value at c.tree_of-b.ensures.root) other in
    rw (← c.self.view_is) (joined_shown c.self.inside.names.items c.self.inside.room links c.join_roots.new.links.items c.tree_of-a.result c.tree_of-b.result c.args.i c.args.j a b c.join_roots.ensures.labels c.join_roots.ensures.flags)

pub returns-else-a-b : goal.returns-else-a-b
returns-else-a-b c =
    let links = c.self.inside.links.items in
    let one : c.args.i < length links = omega (arith, rw (← c.self.view_is) at c.requires.first, c.self.invariant.long) in
    let other : c.args.j < length links = omega (arith, rw (← c.self.view_is) at c.requires.second, c.self.invariant.long) in
    let a_is = rw c.deref.ensures.value at c.tree_of-a.ensures.tree in
    let b_is = rw c.deref-2.ensures.value at c.tree_of-b.ensures.tree in
    let a = label_of_tree links c.tree_of-a.result c.args.i a_is (rw c.deref.ensures.value at c.tree_of-a.ensures.root) one in
    let b = label_of_tree links c.tree_of-b.result c.args.j b_is (rw c.deref-2.ensures.value at c.tree_of-b.ensures.root) other in
    rw (← c.self.view_is) (joined_already c.self.inside.names.items c.self.inside.room links c.self.invariant.forest c.tree_of-a.result c.tree_of-b.result c.args.i c.args.j a_is b_is c.if-a-b.false a b)
