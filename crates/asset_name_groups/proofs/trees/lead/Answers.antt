use Rattle.std.proofs.Common.{◌<◌, ◌^◌, ap, arith, refl}
use Rattle.std.proofs.lemmas.List.{length-set}
use Rattle.asset_name_groups.specs.declared.links.Link.TheVariants.{Below}
use Rattle.asset_name_groups.specs.declared.trees.Tree.{Tree}
use Rattle.asset_name_groups.specs.Roots.{joined_tree, raised}
use Rattle.asset_name_groups.proofs.LeadLemmas.{written, IsLed, led_as_written, led_forest, led_labels, led_flags}
use Rattle.asset_name_groups.proofs.trees.lead.Goals as goal

pub put_root-requires : goal.put_root-requires
unfolding joined_tree
put_root-requires c = omega (arith, c.requires.upper.within, length-set c.args.links.now.items c.args.lower.root (Below c.args.lower.rank c.args.upper.root), ap (λ (group : Tree). group.root) c.joined_tree.ensures.tree)

led : (c : goal.After-put_root) → IsLed c.args.links.now.items c.put_root.new.links.items c.args.lower c.args.upper
unfolding written joined_tree
led c =
    let byte : raised c.args.lower.rank c.args.upper.rank < 2 ^ 8 = omega (arith, ap (λ (group : Tree). group.rank) c.joined_tree.ensures.tree, c.joined_tree.ensures.byte) in
    rw (c.put_root.ensures.links, c.joined_tree.ensures.tree) (led_as_written c.args.links.now.items c.args.lower c.args.upper c.requires.forest c.requires.lower c.requires.upper c.requires.above c.requires.small byte)

pub returns-clause-forest : goal.returns-clause-forest
returns-clause-forest c = led_forest c.args.links.now.items c.put_root.new.links.items c.args.lower c.args.upper (led c)

pub returns-clause-labels : goal.returns-clause-labels
returns-clause-labels c = led_labels c.args.links.now.items c.put_root.new.links.items c.args.lower c.args.upper (led c)

pub returns-clause-flags : goal.returns-clause-flags
returns-clause-flags c = led_flags c.args.links.now.items c.put_root.new.links.items c.args.lower c.args.upper (led c)

pub returns-clause-links : goal.returns-clause-links
unfolding joined_tree
returns-clause-links c = rw (c.put_root.ensures.links, c.joined_tree.ensures.tree) refl
