-- Operations, who is responsible for them, who holds what, permits and who allows whom, and the value of an object.
use Rattle.std.specs.Prelude.{ℕ, ℤ, pos, ◌+ℤ◌, Bool, true, false, cond, not, ◌==◌, ◌&&◌, ◌||◌, List, [], ◌∷◌, ◌++◌, map, filter, Option, Some, None, is_some, unwrap_or, option_map, find}
use Rattle.std.specs.List.{list_any}
use Rattle.std.specs.Int.{w64, int_wrap}
use Rattle.asset_names.specs.declared.names.Ob.{Ob}
use Rattle.asset_names.specs.declared.operations.Op.{Op}
use Rattle.asset_names.specs.declared.operations.Op.TheVariants as Op'
use Rattle.asset_names.specs.declared.sets.ObSet.{ObSet}
use Rattle.asset_names.specs.declared.sets.ObSet.TheVariants.{Listed}
use Rattle.asset_names.specs.declared.steps.Step.{Step}
use Rattle.asset_names.specs.declared.steps.Step.TheVariants.{Read, Write, Add, Permit, PermitAny, Delegate}
use Rattle.asset_names.specs.Arrows.{Arrow, lists, linked, among}
use Rattle.asset_names.specs.OpSets.{has_op}
use Rattle.asset_names.specs.InSet.{in_set}
use Rattle.asset_names.specs.Steps.{Opening}
use Rattle.asset_names.specs.declared.statuses.End.{End}
use Rattle.asset_names.specs.declared.statuses.End.TheVariants as End'
use Rattle.asset_names.specs.Endings.{live, end_of}

-- what an operation does to its object
pub data Use : Type 0 where
  reads : Use
  writes : ℤ → Use
  adds : ℤ → Use

-- an operation: who is responsible for it, on which object, and what it does
pub record Operation : Type 0 where
  pub owner : ℕ
  pub object : ℕ
  pub use_of : Use

-- the kind of operation that a use is
unfoldable pub op_of : Use → Op
op_of reads = Op'.Read
op_of (writes v) = Op'.Write
op_of (adds d) = Op'.Add

-- whether two operations are one
unfoldable pub same_op : Op → Op → Bool
same_op Op'.Read Op'.Read = true
same_op Op'.Write Op'.Write = true
same_op Op'.Add Op'.Add = true
same_op op other = false

-- whether two operations conflict: reads go together, adds go together, and nothing else does
unfoldable pub conflict : Op → Op → Bool
conflict Op'.Read Op'.Read = false
conflict Op'.Add Op'.Add = false
conflict op other = true

-- the operation after a delegation: on an object of the set, the taker is responsible for it in place of the giver
unfoldable pub handed_over : ℕ → ℕ → ObSet → Operation → Operation
handed_over giver taker obs o = cond (o.owner == giver && in_set obs o.object) (record o { owner = taker }) o

-- the operations after a step that took effect, newest first: a read, a write or an add is one more, for
-- which its transaction is responsible; a delegation hands over the giver's on the objects of its set
unfoldable pub operated : Step → List Operation → List Operation
operated (Read t x) older = record { owner = t.0; object = x.0; use_of = reads } ∷ older
operated (Write t x v) older = record { owner = t.0; object = x.0; use_of = writes v } ∷ older
operated (Add t x d) older = record { owner = t.0; object = x.0; use_of = adds d } ∷ older
operated (Delegate giver taker obs) older = map (handed_over giver.0 taker.0 obs) older
operated step older = older

-- the operations of the steps that took effect, newest first
unfoldable pub operations : List Step → List Operation
operations [] = []
operations (step ∷ older) = operated step (operations older)

-- t holds x by op: it is live, and responsible for an operation of this kind on x
unfoldable pub holds : List Step → ℕ → ℕ → Op → Bool
holds steps t x op = live steps t && list_any (λ (o : Operation). o.owner == t && o.object == x && same_op (op_of o.use_of) op) (operations steps)

-- t holds x: it is live, and responsible for an operation on x
unfoldable pub holds_object : List Step → ℕ → ℕ → Bool
holds_object steps t x = live steps t && list_any (λ (o : Operation). o.owner == t && o.object == x) (operations steps)

-- the arrows from the giver, as arrows from the taker
unfoldable pub copied : ℕ → ℕ → List Arrow → List Arrow
copied giver taker arrows = map (λ (arrow : Arrow). (taker, arrow.1)) (filter (λ (arrow : Arrow). arrow.0 == giver) arrows)

-- the arrows that a step adds, over the steps before it and their arrows: a permit adds the one from its giver to its
-- taker, if it covers op on x; a delegation copies the giver's, if the giver hands over x
unfoldable pub permitted_by : Step → List Step → List Arrow → ℕ → Op → List Arrow
permitted_by (Permit giver taker obs ops) older arrows x op = cond (in_set obs x && has_op ops op) ((giver.0, taker.0) ∷ []) []
permitted_by (Delegate giver taker obs) older arrows x op = cond (in_set obs x && holds_object older giver.0 x) (copied giver.0 taker.0 arrows) []
permitted_by step older arrows x op = []

-- the arrows from each giver to each taker whom it permits op on x
unfoldable pub permits : List Step → ℕ → Op → List Arrow
permits [] x op = []
permits (step ∷ older) x op = permitted_by step older (permits older x op) x op ++ permits older x op

-- the names that a step adds to those who permit op on x to anybody, over the steps before it and their names: an open
-- permit adds its giver, if it opens x for op; a delegation adds its taker, if the giver is one of them and hands over x
unfoldable pub opened_by : Step → List Step → List ℕ → ℕ → Op → List ℕ
opened_by (PermitAny giver obs ops) older names x op = cond (in_set (Listed obs) x && has_op ops op) (giver.0 ∷ []) []
opened_by (Delegate giver taker obs) older names x op = cond ((in_set obs x && holds_object older giver.0 x) && lists names giver.0) (taker.0 ∷ []) []
opened_by step older names x op = []

-- those who permit op on x to anybody
unfoldable pub openers : List Step → ℕ → Op → List ℕ
openers [] x op = []
openers (step ∷ older) x op = opened_by step older (openers older x op) x op ++ openers older x op

-- a chain of live transactions leads from u to t, each of which permits op on x to the next; or they are one
unfoldable pub permits_along : List Step → ℕ → ℕ → ℕ → Op → Bool
permits_along steps u t x op = linked (among (live steps) (permits steps x op)) u t

-- a chain of live transactions leads from u to one who permits op on x to anybody
unfoldable pub reaches_opener : List Step → ℕ → ℕ → Op → Bool
reaches_opener steps u x op = list_any (λ a. live steps a && permits_along steps u a x op) (openers steps x op)

-- u allows t to do op on x: they are one, or a chain of live transactions leads from u to t, or t is live and such a chain
-- leads to one who permits it to anybody
unfoldable pub allows : List Step → ℕ → ℕ → ℕ → Op → Bool
allows steps u t x op = permits_along steps u t x op || live steps t && reaches_opener steps u x op

-- the operation blocks t from doing op on x: it is another live transaction's, conflicts with op, and its owner
-- does not allow t to do op on x
unfoldable pub blocks : List Step → ℕ → ℕ → Op → Operation → Bool
blocks steps t x op o = o.object == x && conflict (op_of o.use_of) op && not (o.owner == t) && live steps o.owner && not (allows steps o.owner t x op)

-- x is free for t to do op if no operation blocks it
unfoldable pub free : List Step → ℕ → ℕ → Op → Bool
free steps t x op = not (list_any (blocks steps t x op) (operations steps))

-- whether a transaction ended by an abort
unfoldable pub was_aborted : Option End → Bool
was_aborted (Some End'.Aborted) = true
was_aborted end = false

-- an operation stands unless its owner has aborted
unfoldable pub stands : List Step → Operation → Bool
stands steps o = not (was_aborted (end_of steps o.owner))

-- the opening value of an object, if the opening has it
unfoldable pub opening_at : Opening → ℕ → Option ℤ
opening_at opening x = option_map (λ (pair : Ob × ℤ). pair.1) (find (λ (pair : Ob × ℤ). pair.0.0 == x) opening)

-- whether the object exists
unfoldable pub exists : Opening → ℕ → Bool
exists opening x = is_some (opening_at opening x)

-- the opening value of x, and 0 if there is no such object
unfoldable pub opening_value : Opening → ℕ → ℤ
opening_value opening x = unwrap_or (opening_at opening x) (pos 0)

-- the value that a use leaves, over the value before it; what an add leaves wraps into an i64
unfoldable pub after_use : Use → ℤ → ℤ
after_use reads before = before
after_use (writes v) before = v
after_use (adds d) before = int_wrap w64 (before +ℤ d)

-- the value of x after the operations that count, newest first, over the first value
unfoldable pub value_after : (Operation → Bool) → ℕ → ℤ → List Operation → ℤ
value_after counts x first [] = first
value_after counts x first (o ∷ older) = cond (o.object == x && counts o) (after_use o.use_of (value_after counts x first older)) (value_after counts x first older)

-- the value of an object: its last write that stands, else its opening value, plus all adds after it that stand
unfoldable pub value : Opening → List Step → ℕ → ℤ
value opening steps x = value_after (stands steps) x (opening_value opening x) (operations steps)

-- the value of an object, if it exists
unfoldable pub value_if_any : Opening → List Step → ℕ → Option ℤ
value_if_any opening steps x = cond (exists opening x) (Some (value opening steps x)) None
