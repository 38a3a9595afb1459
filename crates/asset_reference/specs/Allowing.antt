-- The ways along arrows that are added to others.
use Rattle.std.specs.Prelude.{ℕ, Bool, false, ◌==◌, ◌&&◌, List, [], ◌∷◌}
use Rattle.std.specs.List.{list_any}
use Rattle.asset_names.specs.Arrows.{Arrow, linked, among}
use Rattle.asset_names.specs.Operations.{copied}
use Rattle.asset_reference.specs.declared.allowing.Added.{Added}
use Rattle.asset_reference.specs.declared.allowing.Added.TheVariants.{Nothing, One, Copies}

-- the arrows that are added to those that stand
unfoldable pub added_arrows : Added → List Arrow → List Arrow
added_arrows Nothing arrows = []
added_arrows (One giver taker) arrows = (giver.0, taker.0) ∷ []
added_arrows (Copies giver taker) arrows = copied giver.0 taker.0 arrows

-- whether an arrow from a leads to a name that passes the test, and a way on from there to b along the others, between
-- names that pass it
unfoldable pub leads_on : (ℕ → Bool) → List Arrow → List Arrow → ℕ → ℕ → Bool
leads_on test others arrows a b = list_any (λ (arrow : Arrow). arrow.0 == a && (test arrow.1 && linked (among test others) arrow.1 b)) arrows

-- the same of the arrows that are added to those that stand
unfoldable pub leads_by : (ℕ → Bool) → List Arrow → Added → List Arrow → ℕ → ℕ → Bool
leads_by test others Nothing arrows a b = false
leads_by test others (One giver taker) arrows a b = giver.0 == a && (test taker.0 && linked (among test others) taker.0 b)
leads_by test others (Copies giver taker) arrows a b = taker.0 == a && leads_on test others arrows giver.0 b

-- whether a way leads from a to b that goes along an added arrow once, and else along those that stand, between names
-- that pass the test
unfoldable pub goes_along : (ℕ → Bool) → Added → List Arrow → ℕ → ℕ → Bool
goes_along test Nothing arrows a b = false
goes_along test (One giver taker) arrows a b = test giver.0 && (test taker.0 && (linked (among test arrows) a giver.0 && linked (among test arrows) taker.0 b))
goes_along test (Copies giver taker) arrows a b = test taker.0 && (linked (among test arrows) a taker.0 && leads_on test arrows arrows giver.0 b)
