-- Two lists of steps that differ only in the values that are written, and what they say alike.
use Rattle.std.proofs.Common.{◌≡◌, ℕ, ℤ, Bool, true, false, cond, not, eqb, ◌&&◌, ◌||◌, List, [], ◌∷◌, ◌++◌, map, refl, sym, ◌∙◌, ap, None, Some}
use Rattle.std.specs.Prelude.{is_none}
use Rattle.std.specs.Option.{option_or}
use Rattle.std.specs.List.{list_any, list_all}
use Rattle.asset_names.specs.declared.names.Txn.{Txn}
use Rattle.asset_names.specs.declared.names.Ob.{Ob}
use Rattle.asset_names.specs.declared.operations.Op.{Op}
use Rattle.asset_names.specs.declared.operations.Op.TheVariants as Op'
use Rattle.asset_names.specs.declared.sets.ObSet.{ObSet}
use Rattle.asset_names.specs.declared.steps.Kind.{Kind}
use Rattle.asset_names.specs.declared.steps.Kind.TheVariants.{Cd, Ad, Gc}
use Rattle.asset_names.specs.declared.steps.Step.{Step}
use Rattle.asset_names.specs.declared.steps.Step.TheVariants.{Initiate, Begin, Read, Write, Add, Complete, Permit, PermitAny, Delegate, Depend, Commit, Abort, WaitFor}
use Rattle.asset_names.specs.declared.statuses.End.TheVariants as End'
use Rattle.asset_names.specs.InSet.{in_set}
use Rattle.asset_names.specs.Arrows.{Arrow, lists, linked, among}
use Rattle.asset_names.specs.Paths.{both_ways, closes_cycle, has_outside}
use Rattle.asset_names.specs.Steps.{initiated, initiated_by, begun, begun_by, completed, completed_by}
use Rattle.asset_names.specs.Endings.{dependencies, dependency_by, class_arrows, order_arrows, doom_arrows, ended_by, end_of, live, status, status_of, same_class, has_outside_source, would_cycle}
use Rattle.asset_names.specs.Operations.{reads, writes, adds, Operation, op_of, conflict, handed_over, operated, operations, holds_object, copied, permits, permitted_by, openers, opened_by, permits_along, reaches_opener, allows, blocks, free}
use Rattle.asset_names.specs.Answers.{is_completed, class_completed, may_commit}
use Rattle.asset_names.proofs.ListLemmas.{any_map}
use Rattle.asset_laws.specs.Renumbered.{writing}

-- what an operation is but for the value that it writes
unfoldable pub shape : Operation → ℕ × ℕ × Op
shape o = (o.owner, o.object, op_of o.use_of)

-- two lists of steps say the same but for the values that are written
pub record IsSameShape (ones others : List Step) : Type 0 where
  pub initiated_same : initiated ones ≡ initiated others
  pub begun_same : begun ones ≡ begun others
  pub completed_same : completed ones ≡ completed others
  pub ends_same : (n : ℕ) → end_of ones n ≡ end_of others n
  pub dependencies_same : (kind : Kind) → dependencies kind ones ≡ dependencies kind others
  pub shapes_same : map shape (operations ones) ≡ map shape (operations others)
  pub permits_same : (x : ℕ) (op : Op) → permits ones x op ≡ permits others x op
  pub openers_same : (x : ℕ) (op : Op) → openers ones x op ≡ openers others x op

-- ---- what follows

pub live_same : (ones others : List Step) → IsSameShape ones others → live ones ≡ live others
unfolding live
live_same ones others same = λ i n. lists (same.initiated_same i) n && is_none (same.ends_same n i)

pub status_same : (ones others : List Step) → IsSameShape ones others → (n : ℕ) → status ones n ≡ status others n
unfolding status
status_same ones others same n = λ i. status_of (lists (same.initiated_same i) n) (lists (same.begun_same i) n) (lists (same.completed_same i) n) (same.ends_same n i)

classes_same : (ones others : List Step) → IsSameShape ones others → class_arrows ones ≡ class_arrows others
unfolding class_arrows
classes_same ones others same = ap both_ways (same.dependencies_same Gc)

orders_same : (ones others : List Step) → IsSameShape ones others → order_arrows ones ≡ order_arrows others
unfolding order_arrows
orders_same ones others same = λ i. same.dependencies_same Cd i ++ same.dependencies_same Ad i

dooms_same : (ones others : List Step) → IsSameShape ones others → doom_arrows ones ≡ doom_arrows others
unfolding doom_arrows
dooms_same ones others same = λ i. classes_same ones others same i ++ same.dependencies_same Ad i

pub would_cycle_same : (ones others : List Step) → IsSameShape ones others → (kind : Kind) (a b : ℕ) → would_cycle ones kind a b ≡ would_cycle others kind a b
unfolding would_cycle
would_cycle_same ones others same kind a b =
    λ i. closes_cycle kind (among (live_same ones others same i) (classes_same ones others same i)) (among (live_same ones others same i) (orders_same ones others same i)) a b

pub may_commit_same : (ones others : List Step) → IsSameShape ones others → (t : ℕ) → may_commit ones t ≡ may_commit others t
unfolding may_commit class_completed same_class has_outside_source
may_commit_same ones others same t = λ i.
    list_all (λ n. not (linked (among (live_same ones others same i) (classes_same ones others same i)) t n) || is_completed (status_same ones others same n i)) (same.initiated_same i)
    && not (has_outside (among (live_same ones others same i) (classes_same ones others same i)) (among (live_same ones others same i) (orders_same ones others same i)) t)

-- tests of operations that look at shapes alone
shapes_any : (test : ℕ × ℕ × Op → Bool) (ones others : List Operation) → map shape ones ≡ map shape others → list_any (λ (o : Operation). test (shape o)) ones ≡ list_any (λ (o : Operation). test (shape o)) others
shapes_any test ones others same = sym (any_map test shape ones) ∙ ap (list_any test) same ∙ any_map test shape others

pub holds_object_same : (ones others : List Step) → IsSameShape ones others → (t x : ℕ) → holds_object ones t x ≡ holds_object others t x
unfolding holds_object shape
holds_object_same ones others same t x = λ i. live_same ones others same i t && held i where
  held : list_any (λ (o : Operation). eqb o.owner t && eqb o.object x) (operations ones) ≡ list_any (λ (o : Operation). eqb o.owner t && eqb o.object x) (operations others)
  held = shapes_any (λ (s : ℕ × ℕ × Op). eqb s.0 t && eqb s.1 x) (operations ones) (operations others) same.shapes_same

pub free_same : (ones others : List Step) → IsSameShape ones others → (t x : ℕ) (op : Op) → free ones t x op ≡ free others t x op
unfolding free blocks allows permits_along reaches_opener shape
free_same ones others same t x op = ap not (shapes_any (blocked (live ones) (permits ones x op) (openers ones x op)) (operations ones) (operations others) same.shapes_same
    ∙ (λ i. list_any (λ (o : Operation). blocked (live_same ones others same i) (same.permits_same x op i) (same.openers_same x op i) (shape o)) (operations others))) where
      blocked : (ℕ → Bool) → List Arrow → List ℕ → ℕ × ℕ × Op → Bool
      blocked alive arrows names s =
          eqb s.1 x && conflict s.2 op && not (eqb s.0 t) && alive s.0
          && not (linked (among alive arrows) s.0 t || alive t && list_any (λ a. alive a && linked (among alive arrows) s.0 a) names)

-- ---- what one step adds

-- whom it ends
ended_same : (ones others : List Step) → IsSameShape ones others → (step : Step) (n : ℕ)
    → ended_by step (live ones) ones n ≡ ended_by step (live others) others n
unfolding ended_by
ended_same ones others same (Initiate t parent) n = refl
ended_same ones others same (Begin t) n = refl
ended_same ones others same (Read t x) n = refl
ended_same ones others same (Complete t) n = refl
ended_same ones others same (Permit giver taker obs ops) n = refl
ended_same ones others same (Delegate giver taker obs) n = refl
ended_same ones others same (Depend kind a b) n = refl
ended_same ones others same (Commit t) n = λ i. cond (live_same ones others same i t.0 && linked (among (live_same ones others same i) (classes_same ones others same i)) t.0 n) (Some End'.Committed) None
ended_same ones others same (Abort t) n = λ i. cond (live_same ones others same i t.0 && linked (among (live_same ones others same i) (dooms_same ones others same i)) t.0 n) (Some End'.Aborted) None
ended_same ones others same (WaitFor t) n = refl
ended_same ones others same (PermitAny giver obs ops) n = refl
ended_same ones others same (Write t x v) n = refl
ended_same ones others same (Add t x d) n = refl

-- which permits it adds
permitted_same : (ones others : List Step) → IsSameShape ones others → (step : Step) (x : ℕ) (op : Op) → permitted_by step ones (permits ones x op) x op ≡ permitted_by step others (permits others x op) x op
unfolding permitted_by
permitted_same ones others same (Initiate t parent) x op = refl
permitted_same ones others same (Begin t) x op = refl
permitted_same ones others same (Read t y) x op = refl
permitted_same ones others same (Complete t) x op = refl
permitted_same ones others same (Permit giver taker obs ops) x op = refl
permitted_same ones others same (Delegate giver taker obs) x op = λ i. cond (in_set obs x && holds_object_same ones others same giver.0 x i) (copied giver.0 taker.0 (same.permits_same x op i)) []
permitted_same ones others same (Depend kind a b) x op = refl
permitted_same ones others same (Commit t) x op = refl
permitted_same ones others same (Abort t) x op = refl
permitted_same ones others same (WaitFor t) x op = refl
permitted_same ones others same (PermitAny giver obs ops) x op = refl
permitted_same ones others same (Write t y v) x op = refl
permitted_same ones others same (Add t y d) x op = refl

-- whom it adds to the openers
opened_same : (ones others : List Step) → IsSameShape ones others → (step : Step) (x : ℕ) (op : Op) → opened_by step ones (openers ones x op) x op ≡ opened_by step others (openers others x op) x op
unfolding opened_by
opened_same ones others same (Initiate t parent) x op = refl
opened_same ones others same (Begin t) x op = refl
opened_same ones others same (Read t y) x op = refl
opened_same ones others same (Write t y v) x op = refl
opened_same ones others same (Add t y d) x op = refl
opened_same ones others same (Complete t) x op = refl
opened_same ones others same (Permit giver taker obs ops) x op = refl
opened_same ones others same (PermitAny giver obs ops) x op = refl
opened_same ones others same (Delegate giver taker obs) x op = λ i. cond ((in_set obs x && holds_object_same ones others same giver.0 x i) && lists (same.openers_same x op i) giver.0) (taker.0 ∷ []) []
opened_same ones others same (Depend kind a b) x op = refl
opened_same ones others same (Commit t) x op = refl
opened_same ones others same (Abort t) x op = refl
opened_same ones others same (WaitFor t) x op = refl

-- which operations it leaves
handed_shape : ℕ → ℕ → ObSet → ℕ × ℕ × Op → ℕ × ℕ × Op
handed_shape giver taker obs s = cond (eqb s.0 giver && in_set obs s.1) (taker, s.1, s.2) s

handed_shapes : (giver taker : ℕ) (obs : ObSet) (os : List Operation) → map shape (map (handed_over giver taker obs) os) ≡ map (handed_shape giver taker obs) (map shape os)
unfolding handed_over shape handed_shape
handed_shapes giver taker obs [] = refl
handed_shapes giver taker obs (o ∷ os) = λ i. one (eqb o.owner giver && in_set obs o.object) i ∷ handed_shapes giver taker obs os i where
  one : (moves : Bool) → shape (cond moves (record o { owner = taker }) o) ≡ cond moves (taker, o.object, op_of o.use_of) (o.owner, o.object, op_of o.use_of)
  one true = refl
  one false = refl

operated_same : (ones others : List Step) → IsSameShape ones others → (step : Step) → map shape (operations (step ∷ ones)) ≡ map shape (operations (step ∷ others))
unfolding operations operated shape
operated_same ones others same (Initiate t parent) = same.shapes_same
operated_same ones others same (Begin t) = same.shapes_same
operated_same ones others same (Read t x) = ap (λ shapes. (t.0, x.0, op_of reads) ∷ shapes) same.shapes_same
operated_same ones others same (Complete t) = same.shapes_same
operated_same ones others same (Permit giver taker obs ops) = same.shapes_same
operated_same ones others same (Delegate giver taker obs) =
    handed_shapes giver.0 taker.0 obs (operations ones) ∙ ap (map (handed_shape giver.0 taker.0 obs)) same.shapes_same ∙ sym (handed_shapes giver.0 taker.0 obs (operations others))
operated_same ones others same (Depend kind a b) = same.shapes_same
operated_same ones others same (Commit t) = same.shapes_same
operated_same ones others same (Abort t) = same.shapes_same
operated_same ones others same (WaitFor t) = same.shapes_same
operated_same ones others same (PermitAny giver obs ops) = same.shapes_same
operated_same ones others same (Write t x v) = ap (λ shapes. (t.0, x.0, op_of (writes v)) ∷ shapes) same.shapes_same
operated_same ones others same (Add t x d) = ap (λ shapes. (t.0, x.0, op_of (adds d)) ∷ shapes) same.shapes_same

-- ---- one more step

-- the same step adds the same to both
step_more : (ones others : List Step) → IsSameShape ones others → (step : Step) → IsSameShape (step ∷ ones) (step ∷ others)
unfolding initiated begun completed dependencies permits openers end_of live
step_more ones others same step = record {
  initiated_same = ap (λ names. initiated_by step ++ names) same.initiated_same;
  begun_same = ap (λ names. begun_by step ++ names) same.begun_same;
  completed_same = ap (λ names. completed_by step ++ names) same.completed_same;
  ends_same = λ n. λ i. option_or (same.ends_same n i) (ended_same ones others same step n i);
  dependencies_same = λ kind. ap (λ arrows. dependency_by kind step ++ arrows) (same.dependencies_same kind);
  shapes_same = operated_same ones others same step;
  permits_same = λ x op. λ i. permitted_same ones others same step x op i ++ same.permits_same x op i;
  openers_same = λ x op. λ i. opened_same ones others same step x op i ++ same.openers_same x op i;
}

-- a write of another value adds the same
write_more : (ones others : List Step) → IsSameShape ones others → (t : Txn) (x : Ob) (v w : ℤ) → IsSameShape (Write t x v ∷ ones) (Write t x w ∷ others)
unfolding initiated initiated_by begun begun_by completed completed_by dependencies dependency_by permits permitted_by openers opened_by end_of ended_by operations operated shape op_of
write_more ones others same t x v w = record {
  initiated_same = same.initiated_same;
  begun_same = same.begun_same;
  completed_same = same.completed_same;
  ends_same = λ n. λ i. option_or (same.ends_same n i) None;
  dependencies_same = λ kind. same.dependencies_same kind;
  shapes_same = ap (λ shapes. (t.0, x.0, Op'.Write) ∷ shapes) same.shapes_same;
  permits_same = λ y op. same.permits_same y op;
  openers_same = λ y op. same.openers_same y op;
}

-- an add of another number adds the same
add_more : (ones others : List Step) → IsSameShape ones others → (t : Txn) (x : Ob) (d e : ℤ) → IsSameShape (Add t x d ∷ ones) (Add t x e ∷ others)
unfolding initiated initiated_by begun begun_by completed completed_by dependencies dependency_by permits permitted_by openers opened_by end_of ended_by operations operated shape op_of
add_more ones others same t x d e = record {
  initiated_same = same.initiated_same;
  begun_same = same.begun_same;
  completed_same = same.completed_same;
  ends_same = λ n. λ i. option_or (same.ends_same n i) None;
  dependencies_same = λ kind. same.dependencies_same kind;
  shapes_same = ap (λ shapes. (t.0, x.0, Op'.Add) ∷ shapes) same.shapes_same;
  permits_same = λ y op. same.permits_same y op;
  openers_same = λ y op. same.openers_same y op;
}

pub same_more : (ones others : List Step) → IsSameShape ones others → (n : ℕ) (step : Step) → IsSameShape (writing n step ∷ ones) (step ∷ others)
unfolding writing
same_more ones others same n (Write t x v) = write_more ones others same t x _ v
same_more ones others same n (Add t x d) = add_more ones others same t x _ d
same_more ones others same n (Initiate t parent) = step_more ones others same (Initiate t parent)
same_more ones others same n (Begin t) = step_more ones others same (Begin t)
same_more ones others same n (Read t x) = step_more ones others same (Read t x)
same_more ones others same n (Complete t) = step_more ones others same (Complete t)
same_more ones others same n (Permit giver taker obs ops) = step_more ones others same (Permit giver taker obs ops)
same_more ones others same n (Delegate giver taker obs) = step_more ones others same (Delegate giver taker obs)
same_more ones others same n (Depend kind a b) = step_more ones others same (Depend kind a b)
same_more ones others same n (Commit t) = step_more ones others same (Commit t)
same_more ones others same n (Abort t) = step_more ones others same (Abort t)
same_more ones others same n (WaitFor t) = step_more ones others same (WaitFor t)
same_more ones others same n (PermitAny giver obs ops) = step_more ones others same (PermitAny giver obs ops)
