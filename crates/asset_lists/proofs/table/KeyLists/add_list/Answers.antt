use Rattle.std.proofs.Common.{◌≡◌, ℕ, [], ◌∷◌, ◌++◌, List, not, sym, ap, subst, ◌∙◌, arith}
use Rattle.std.specs.Result.{is_ok}
use Rattle.std.proofs.lemmas.Bool.{cond-true}
use Rattle.asset_lists.specs.declared.rows.Row.{Row}
use Rattle.asset_lists.specs.Parted.{one_list_more}
use Rattle.asset_lists.specs.Placed.{seen, IsValid}
use Rattle.asset_lists.proofs.GrowLemmas.{valid_list_more, seen_list_more}
use Rattle.asset_lists.proofs.table.KeyLists.add_list.Goals as goal

-- a row of a list that has no keys
row_of : ℕ → List ℕ → Row
row_of capacity keys = record { keys = record { items = keys; capacity = capacity }; front = 0; back = 0 }

pub invariant_of-self-else-is_err : goal.invariant_of-self-else-is_err
unfolding row_of
invariant_of-self-else-is_err c =
    let rows = c.self.inside.rows.items in
    let places = c.self.inside.places.items in
    let row = row_of c.new.result.capacity c.new.result.items in
    let is : c.push.new.self.items ≡ rows ++ row ∷ [] =
    c.push.ensures.items ∙ cond-true (is_ok c.push.result) (rows ++ row ∷ []) rows (c.is_err.ensures.negation ∙ ap not c.if-is_err.false) in
    subst (λ (l : List Row). IsValid l places) (sym (is ∙ ap (λ (keys : List ℕ). rows ++ row_of c.new.result.capacity keys ∷ []) c.new.ensures.items)) (valid_list_more rows places c.new.result.capacity c.self.invariant (omega (arith, c.len.ensures)))

pub returns-clause-added : goal.returns-clause-added
unfolding row_of
returns-clause-added c =
    let rows = c.self.inside.rows.items in
    let places = c.self.inside.places.items in
    let row = row_of c.new.result.capacity c.new.result.items in
    let is : c.push.new.self.items ≡ rows ++ row ∷ [] =
    c.push.ensures.items ∙ cond-true (is_ok c.push.result) (rows ++ row ∷ []) rows (c.is_err.ensures.negation ∙ ap not c.if-is_err.false) in
    ap (λ (l : List Row). seen l places) (is ∙ ap (λ (keys : List ℕ). rows ++ row_of c.new.result.capacity keys ∷ []) c.new.ensures.items) ∙ seen_list_more rows places c.new.result.capacity ∙ ap one_list_more c.self.view_is
