use Rattle.std.proofs.Common.{◌≡◌, [], ◌∷◌, ◌++◌, List, not, sym, ap, subst, ◌∙◌, arith}
use Rattle.std.specs.Result.{is_ok}
use Rattle.std.proofs.lemmas.Bool.{cond-true}
use Rattle.std.proofs.lemmas.List.{length-append}
use Rattle.asset_chains.specs.Chained.{one_chain_more}
use Rattle.asset_chains.specs.declared.heads.Head.{Head}
use Rattle.asset_chains.specs.Linked.{no_head, seen, IsValid}
use Rattle.asset_chains.proofs.StoreLemmas.{seen_is, stores_chain_more, valid_from}
use Rattle.asset_chains.proofs.table.Chains.add_chain.Goals as goal

pub invariant_of-self-else-is_err : goal.invariant_of-self-else-is_err
invariant_of-self-else-is_err c =
    let links = c.self.inside.links.items in
    let heads = c.self.inside.heads.items in
    let table = seen links heads in
    let is : c.push.new.self.items ≡ heads ++ no_head ∷ [] =
    c.push.ensures.items ∙ cond-true (is_ok c.push.result) (heads ++ no_head ∷ []) heads (c.is_err.ensures.negation ∙ ap not c.if-is_err.false) in
    subst (λ (h : List Head). IsValid links h) (sym is)
    (valid_from links (heads ++ no_head ∷ []) (one_chain_more table) (stores_chain_more links heads table c.self.invariant.stored)
    c.self.invariant.few_keys (omega (arith, length-append heads (no_head ∷ []), c.len.ensures)))

pub returns-clause-added : goal.returns-clause-added
returns-clause-added c =
    let links = c.self.inside.links.items in
    let heads = c.self.inside.heads.items in
    let table = seen links heads in
    let is : c.push.new.self.items ≡ heads ++ no_head ∷ [] =
    c.push.ensures.items ∙ cond-true (is_ok c.push.result) (heads ++ no_head ∷ []) heads (c.is_err.ensures.negation ∙ ap not c.if-is_err.false) in
    ap (λ (h : List Head). seen links h) is
    ∙ seen_is links (heads ++ no_head ∷ []) (one_chain_more table) (stores_chain_more links heads table c.self.invariant.stored) ∙ ap one_chain_more c.self.view_is
