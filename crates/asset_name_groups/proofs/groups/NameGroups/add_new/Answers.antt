use Rattle.std.proofs.Common.{◌≡◌, ◌+◌, ◌++◌, ◌∷◌, [], length, ap, sym, ◌∙◌, arith}
use Rattle.std.proofs.lemmas.List.{length_push}
use Rattle.asset_name_groups.specs.NamesInGroups.{one_more}
use Rattle.asset_name_groups.specs.Trees.{labels_in}
use Rattle.asset_name_groups.proofs.LabelLemmas.{labels_long}
use Rattle.asset_name_groups.proofs.GroupLemmas.{still_different}
use Rattle.asset_name_groups.proofs.groups.NameGroups.add_new.Goals as goal

pub invariant_of-self : goal.invariant_of-self
invariant_of-self c =
    let was = c.self.invariant in
    let names = c.self.inside.names.items in
    let room = rw (← c.self.view_is) at c.requires.room in
    record {
      indexed = c.add_name.ensures.indexed;
      different = rw c.add_name.ensures.added (still_different names c.args.t was.different (rw (← c.self.view_is) at c.requires.new));
      forest = c.add_node.ensures.forest;
      long = c.add_node.ensures.size ∙ ap (λ n. n + 1) was.long ∙ sym (ap length c.add_name.ensures.added ∙ length_push names c.args.t);
      within = omega (arith, room, ap length c.add_name.ensures.added, length_push names c.args.t);
      small = was.small;
      for_names = omega (arith, was.for_names, c.add_name.ensures.capacity.0);
      for_before = omega (arith, was.for_before, c.add_name.ensures.capacity.1);
      for_links = omega (arith, was.for_links, c.add_node.ensures.capacity);
    }

pub returns-clause-added : goal.returns-clause-added
unfolding one_more
returns-clause-added c =
    let links = c.self.inside.links.items in
    let labels : labels_in c.add_node.new.links.items ≡ labels_in links ++ length (labels_in links) ∷ [] = c.add_node.ensures.labels ∙ ap (λ n. labels_in links ++ n ∷ []) (sym (labels_long links)) in
    rw (← c.self.view_is) (λ i. record { names = c.add_name.ensures.added i; labels = labels i; flags = c.add_node.ensures.flags i; room = c.self.inside.room })
