use Rattle.std.proofs.Common.{◌≡◌, [], ◌∷◌, ◌++◌, List, not, sym, ap, subst, ◌∙◌, arith}
use Rattle.std.specs.Result.{is_ok}
use Rattle.std.proofs.lemmas.Bool.{cond-true}
use Rattle.asset_lists.specs.declared.rows.Place.{Place}
use Rattle.asset_lists.specs.Parted.{one_key_more}
use Rattle.asset_lists.specs.Placed.{no_place, seen, IsValid}
use Rattle.asset_lists.proofs.GrowLemmas.{valid_key_more, seen_key_more}
use Rattle.asset_lists.proofs.table.KeyLists.add_key.Goals as goal

pub invariant_of-self-else-is_err : goal.invariant_of-self-else-is_err
invariant_of-self-else-is_err c =
    let rows = c.self.inside.rows.items in
    let places = c.self.inside.places.items in
    let is : c.push.new.self.items ≡ places ++ no_place ∷ [] =
    c.push.ensures.items ∙ cond-true (is_ok c.push.result) (places ++ no_place ∷ []) places (c.is_err.ensures.negation ∙ ap not c.if-is_err.false) in
    subst (λ (l : List Place). IsValid rows l) (sym is) (valid_key_more rows places c.self.invariant (omega (arith, c.len.ensures)))

pub returns-clause-added : goal.returns-clause-added
returns-clause-added c =
    let rows = c.self.inside.rows.items in
    let places = c.self.inside.places.items in
    let is : c.push.new.self.items ≡ places ++ no_place ∷ [] =
    c.push.ensures.items ∙ cond-true (is_ok c.push.result) (places ++ no_place ∷ []) places (c.is_err.ensures.negation ∙ ap not c.if-is_err.false) in
    ap (λ (l : List Place). seen rows l) is ∙ seen_key_more rows places ∙ ap one_key_more c.self.view_is
