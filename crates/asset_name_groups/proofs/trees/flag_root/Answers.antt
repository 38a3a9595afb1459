use Rattle.std.proofs.Common.{◌≡◌, ◌≢◌, ℕ, true, false, length, ap, ◌∙◌}
use Rattle.std.proofs.lemmas.List.{length-set, get_or-set_same, get_or-set_other}
use Rattle.asset_name_groups.specs.declared.links.Link.TheVariants.{Root}
use Rattle.asset_name_groups.specs.Trees.{link_at}
use Rattle.asset_name_groups.specs.Roots.{root_link}
use Rattle.asset_name_groups.proofs.LikeLemmas.{flagged_forest, flagged_labels, flagged_flags}
use Rattle.asset_name_groups.proofs.trees.flag_root.Goals as goal

at_root : (c : goal.After-put_root) → link_at c.put_root.new.links.items c.args.tree.root ≡ Root c.args.tree.rank true c.args.tree.label
unfolding root_link
at_root c =
    ap (λ links. link_at links c.args.tree.root) c.put_root.ensures.links
    ∙ get_or-set_same c.args.links.now.items c.args.tree.root (Root c.args.tree.rank true c.args.tree.label) (Root 0 false 0) c.requires.tree.within

others : (c : goal.After-put_root) (k : ℕ) → k ≢ c.args.tree.root → link_at c.put_root.new.links.items k ≡ link_at c.args.links.now.items k
unfolding root_link
others c k not =
    ap (λ links. link_at links k) c.put_root.ensures.links
    ∙ get_or-set_other c.args.links.now.items c.args.tree.root k (Root c.args.tree.rank true c.args.tree.label) (Root 0 false 0) not

size : (c : goal.After-put_root) → length c.put_root.new.links.items ≡ length c.args.links.now.items
unfolding root_link
size c = ap length c.put_root.ensures.links ∙ length-set c.args.links.now.items c.args.tree.root (Root c.args.tree.rank true c.args.tree.label)

pub returns-clause-forest : goal.returns-clause-forest
returns-clause-forest c = flagged_forest c.args.links.now.items c.put_root.new.links.items c.requires.forest c.args.tree c.requires.tree (at_root c) (others c) (size c)

pub returns-clause-labels : goal.returns-clause-labels
returns-clause-labels c = flagged_labels c.args.links.now.items c.put_root.new.links.items c.requires.forest c.args.tree c.requires.tree (at_root c) (others c) (size c)

pub returns-clause-flags : goal.returns-clause-flags
returns-clause-flags c = flagged_flags c.args.links.now.items c.put_root.new.links.items c.requires.forest c.args.tree c.requires.tree (at_root c) (others c) (size c)
