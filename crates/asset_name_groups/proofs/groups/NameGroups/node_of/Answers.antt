use Rattle.std.proofs.Common.{◌≡◌, ◌++◌, ◌∷◌, [], ap, sym, ◌∙◌, arith}
use Rattle.std.proofs.lemmas.Bool.{cond-true, cond-false}
use Rattle.std.proofs.lemmas.List.{length_push, get_or_push}
use Rattle.asset_name_groups.specs.NamesInGroups.{NamesInGroups, with_node, one_more, has_name}
use Rattle.asset_name_groups.proofs.GroupLemmas.{has_at}
use Rattle.asset_name_groups.proofs.groups.NameGroups.node_of.Goals as goal

pub returns-in-Some-clause-named : goal.returns-in-Some-clause-named
unfolding with_node
returns-in-Some-clause-named c =
    let found = c.in-Some.ensures.found in
    sym (cond-true (has_name c.args.self.now.names c.args.t) c.args.self.now (one_more c.args.self.now c.args.t) (has_at c.args.self.now.names c.args.t c.in-Some.node found.0 found.1))

pub returns-in-None-clause-named : goal.returns-in-None-clause-named
unfolding with_node
returns-in-None-clause-named c = c.add_new.ensures.added ∙ sym (cond-false (has_name c.args.self.now.names c.args.t) c.args.self.now (one_more c.args.self.now c.args.t) c.in-None.ensures.absent)

pub returns-in-None-clause-node : goal.returns-in-None-clause-node
unfolding one_more
returns-in-None-clause-node c =
    let names : c.add_new.new.self.names ≡ c.args.self.now.names ++ c.args.t ∷ [] = ap (λ (groups : NamesInGroups). groups.names) c.add_new.ensures.added in
    rw names (omega (arith, c.add_new.ensures.node, length_push c.args.self.now.names c.args.t), get_or_push c.args.self.now.names c.args.t 0 c.add_new.result (sym c.add_new.ensures.node))
