use Rattle.std.proofs.Common.{◌≡◌, [], ◌∷◌, ◌++◌, List, not, sym, ap, subst, ◌∙◌, arith}
use Rattle.std.specs.Result.{is_ok}
use Rattle.std.proofs.lemmas.Bool.{cond-true}
use Rattle.std.proofs.lemmas.List.{length-append}
use Rattle.asset_chains.specs.Chained.{one_key_more}
use Rattle.asset_chains.specs.declared.links.Link.{Link}
use Rattle.asset_chains.specs.Linked.{no_link, seen, IsValid}
use Rattle.asset_chains.proofs.StoreLemmas.{seen_is, stores_key_more, valid_from}
use Rattle.asset_chains.proofs.table.Chains.add_key.Goals as goal

pub invariant_of-self-else-is_err : goal.invariant_of-self-else-is_err
invariant_of-self-else-is_err c =
    let links = c.self.inside.links.items in
    let heads = c.self.inside.heads.items in
    let table = seen links heads in
    let is : c.push.new.self.items ≡ links ++ no_link ∷ [] =
    c.push.ensures.items ∙ cond-true (is_ok c.push.result) (links ++ no_link ∷ []) links (c.is_err.ensures.negation ∙ ap not c.if-is_err.false) in
    subst (λ (l : List Link). IsValid l heads) (sym is)
    (valid_from (links ++ no_link ∷ []) heads (one_key_more table) (stores_key_more links heads table c.self.invariant.stored)
    (omega (arith, length-append links (no_link ∷ []), c.len.ensures)) c.self.invariant.few_chains)

pub returns-clause-added : goal.returns-clause-added
returns-clause-added c =
    let links = c.self.inside.links.items in
    let heads = c.self.inside.heads.items in
    let table = seen links heads in
    let is : c.push.new.self.items ≡ links ++ no_link ∷ [] =
    c.push.ensures.items ∙ cond-true (is_ok c.push.result) (links ++ no_link ∷ []) links (c.is_err.ensures.negation ∙ ap not c.if-is_err.false) in
    ap (λ (l : List Link). seen l heads) is
    ∙ seen_is (links ++ no_link ∷ []) heads (one_key_more table) (stores_key_more links heads table c.self.invariant.stored) ∙ ap one_key_more c.self.view_is
