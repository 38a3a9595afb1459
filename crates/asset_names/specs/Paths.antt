-- Dependencies as arrows from sources to dependents: the arrows that make classes, the arrows of order between
-- classes, and the paths along both.
use Rattle.std.specs.Prelude.{ℕ, Bool, true, false, ◌&&◌, ◌||◌, not, List, [], ◌∷◌, ◌++◌}
use Rattle.std.specs.List.{list_any}
use Rattle.asset_names.specs.declared.steps.Kind.{Kind}
use Rattle.asset_names.specs.declared.steps.Kind.TheVariants.{Cd, Ad, Gc}
use Rattle.asset_names.specs.Arrows.{Arrow, linked}

-- whether the two are the same kind of dependency
unfoldable pub same_kind : Kind → Kind → Bool
same_kind Cd Cd = true
same_kind Ad Ad = true
same_kind Gc Gc = true
same_kind kind other = false

-- each arrow, and its reverse: a group commit joins its two transactions both ways
unfoldable pub both_ways : List Arrow → List Arrow
both_ways [] = []
both_ways (arrow ∷ arrows) = arrow ∷ (arrow.1, arrow.0) ∷ both_ways arrows

-- A path leads from the class of a to that of b, along arrows of order from class to class. Within a class it may go
-- anywhere, since the arrows that make classes lead both ways.
unfoldable pub leads : List Arrow → List Arrow → ℕ → ℕ → Bool
leads classes orders a b = linked (classes ++ orders) a b

-- Whether a dependency of b on a would close a cycle of classes: a group commit does if the two classes differ and a path
-- leads from the one to the other; another dependency does if a path leads back, or the two are of one class.
unfoldable pub closes_cycle : Kind → List Arrow → List Arrow → ℕ → ℕ → Bool
closes_cycle Gc classes orders a b = not (linked classes a b) && (leads classes orders a b || leads classes orders b a)
closes_cycle Cd classes orders a b = leads classes orders b a
closes_cycle Ad classes orders a b = leads classes orders b a

-- whether an arrow of order leads into t's class from a source outside it
unfoldable pub has_outside : List Arrow → List Arrow → ℕ → Bool
has_outside classes orders t = list_any (λ (arrow : Arrow). linked classes t arrow.1 && not (linked classes t arrow.0)) orders
