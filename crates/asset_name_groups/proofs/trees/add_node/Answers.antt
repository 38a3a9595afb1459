use Rattle.std.proofs.Common.{◌≡◌, ◌++◌, ◌∷◌, [], false, length, ap, ◌∙◌, arith}
use Rattle.asset_name_groups.specs.declared.links.Link.TheVariants.{Root}
use Rattle.asset_name_groups.specs.Trees.{labels_in, flags_in}
use Rattle.asset_name_groups.proofs.LikeLemmas.{more_forest, more_labels, more_flags}
use Rattle.asset_name_groups.proofs.trees.add_node.Goals as goal

pushed : (c : goal.After-push_reserved) → c.push_reserved.new.self.items ≡ c.args.links.now.items ++ Root 0 false (length c.args.links.now.items) ∷ []
pushed c =
    let count : c.len-node.result ≡ length c.args.links.now.items = omega (arith, c.len-node.ensures) in
    c.push_reserved.ensures.items ∙ ap (λ n. c.args.links.now.items ++ Root 0 false n ∷ []) count

pub returns-clause-forest : goal.returns-clause-forest
returns-clause-forest c = rw (pushed c) (more_forest c.args.links.now.items c.requires.forest)

pub returns-clause-labels : goal.returns-clause-labels
returns-clause-labels c = ap labels_in (pushed c) ∙ more_labels c.args.links.now.items c.requires.forest

pub returns-clause-flags : goal.returns-clause-flags
returns-clause-flags c = ap flags_in (pushed c) ∙ more_flags c.args.links.now.items c.requires.forest
