-- Permits: who lets whom do what on which objects, and who allows whom by them.
use Rattle.std.specs.Prelude.{◌≡◌, ℕ, Bool, true, false, ◌==◌, ◌&&◌, ◌||◌, not, List, [], ◌∷◌, map, filter}
use Rattle.std.specs.List.{list_any}
use Rattle.std.specs.Bool.{beq}
use Rattle.std.specs.Cmp.Lexicographic.{pointwise}
use Rattle.asset_names.specs.declared.names.Ob.{Ob}
use Rattle.asset_names.specs.declared.operations.Op.{Op}
use Rattle.asset_names.specs.declared.sets.ObSet.{ObSet}
use Rattle.asset_names.specs.declared.sets.ObSet.TheVariants.{All, Listed}
use Rattle.asset_names.specs.Arrows.{Arrow, linked}
use Rattle.asset_names.specs.InSet.{in_set}
use Rattle.asset_names.specs.OpSets.{has_op, OpSet}

-- a permit: the giver lets the taker do the operations on the objects. An open one is without a taker: it lets anybody do
-- them, and its giver stands in the taker's place.
pub record Descriptor : Type 0 where
  pub giver : ℕ
  pub taker : ℕ
  pub objects : ObSet
  pub ops : OpSet
  pub is_open : Bool

-- the permit that names its taker
abbrev pub named_permit : ℕ → ℕ → ObSet → OpSet → Descriptor
named_permit giver taker objects ops = record { giver = giver; taker = taker; objects = objects; ops = ops; is_open = false }

-- the permit to anybody
abbrev pub open_permit : ℕ → ObSet → OpSet → Descriptor
open_permit giver objects ops = record { giver = giver; taker = giver; objects = objects; ops = ops; is_open = true }

-- whether the two are the same set, said by the same list
unfoldable pub same_objects : ObSet → ObSet → Bool
same_objects All All = true
same_objects All (Listed others) = false
same_objects (Listed objects) All = false
same_objects (Listed objects) (Listed others) = pointwise (λ (x y : Ob). x.0 == y.0) objects others

-- whether the two are the same operations
unfoldable pub same_ops : OpSet → OpSet → Bool
same_ops ops others = beq ops.read others.read && beq ops.write others.write && beq ops.add others.add

-- whether the two say the same
unfoldable pub same_descriptor : Descriptor → Descriptor → Bool
same_descriptor d e = d.giver == e.giver && d.taker == e.taker && same_objects d.objects e.objects && same_ops d.ops e.ops && beq d.is_open e.is_open

-- whether the descriptor is among those that stand
unfoldable pub stands : List Descriptor → Descriptor → Bool
stands descriptors e = list_any (λ (d : Descriptor). same_descriptor d e) descriptors

-- none stands twice
unfoldable pub AreDifferent : List Descriptor → Type 0
AreDifferent [] = Unit {0}
AreDifferent (d ∷ descriptors) = (stands descriptors d ≡ false) × AreDifferent descriptors

-- whether the descriptor has the object and the operation
unfoldable pub includes : ℕ → Op → Descriptor → Bool
includes x op d = in_set d.objects x && has_op d.ops op

-- whether the descriptor covers op on x: it names its taker, and has the object and the operation
unfoldable pub covers : ℕ → Op → Descriptor → Bool
covers x op d = not d.is_open && includes x op d

-- whether the descriptor opens x for op: it is open, and has the object and the operation
unfoldable pub opens_on : ℕ → Op → Descriptor → Bool
opens_on x op d = d.is_open && includes x op d

-- whether the descriptor is of this giver for this taker, and covers op on x
unfoldable pub lets : ℕ → ℕ → ℕ → Op → Descriptor → Bool
lets giver taker x op d = d.giver == giver && d.taker == taker && covers x op d

-- whether a descriptor that stands is of this giver for this taker, and covers op on x
unfoldable pub one_covers : List Descriptor → ℕ → ℕ → ℕ → Op → Bool
one_covers descriptors giver taker x op = list_any (lets giver taker x op) descriptors

-- whether the descriptor is of this giver, and opens x for op
unfoldable pub lets_all : ℕ → ℕ → Op → Descriptor → Bool
lets_all giver x op d = d.giver == giver && opens_on x op d

-- whether a descriptor that stands is of this giver, and opens x for op
unfoldable pub opens : List Descriptor → ℕ → ℕ → Op → Bool
opens descriptors giver x op = list_any (lets_all giver x op) descriptors

-- whether the transaction gives a permit
unfoldable pub gives : ℕ → List Descriptor → Bool
gives giver descriptors = list_any (λ (d : Descriptor). d.giver == giver) descriptors

-- the arrows from givers to takers who may do op on x
unfoldable pub arrows_for : List Descriptor → ℕ → Op → List Arrow
arrows_for descriptors x op = map (λ (d : Descriptor). (d.giver, d.taker)) (filter (covers x op) descriptors)

-- the openers: those who let anybody do op on x
unfoldable pub openers_for : List Descriptor → ℕ → Op → List ℕ
openers_for descriptors x op = map (λ (d : Descriptor). d.giver) (filter (opens_on x op) descriptors)

-- whether a chain of descriptors that stand leads from the giver to the taker, each of which covers op on x; or they are one
unfoldable pub leads_by : List Descriptor → ℕ → ℕ → ℕ → Op → Bool
leads_by descriptors giver taker x op = linked (arrows_for descriptors x op) giver taker

-- whether such a chain leads from the giver to an opener
unfoldable pub reaches_opener : List Descriptor → ℕ → ℕ → Op → Bool
reaches_opener descriptors giver x op = list_any (λ a. leads_by descriptors giver a x op) (openers_for descriptors x op)

-- whether the giver allows the taker to do op on x: such a chain leads from the one to the other, or from the one to an
-- opener
unfoldable pub allows_by : List Descriptor → ℕ → ℕ → ℕ → Op → Bool
allows_by descriptors giver taker x op = leads_by descriptors giver taker x op || reaches_opener descriptors giver x op
