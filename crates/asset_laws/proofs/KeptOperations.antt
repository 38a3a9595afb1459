-- Dependencies, operations and permits after one more step, of a kept transaction or of another.
use Rattle.std.proofs.Common.{◌≡◌, ℕ, Bool, true, false, cond, eqb, ◌&&◌, ◌||◌, List, [], ◌∷◌, ◌++◌, map, filter, refl, sym, ◌∙◌, ap, ◌⊎◌, inl, inr}
use Rattle.std.proofs.lemmas.Bool.{or_cases, and_parts, eqb-true, false≢true}
use Rattle.asset_names.specs.declared.names.Txn.{Txn}
use Rattle.asset_names.specs.declared.operations.Op.{Op}
use Rattle.asset_names.specs.declared.sets.ObSet.{ObSet}
use Rattle.asset_names.specs.declared.sets.ObSet.TheVariants.{Listed}
use Rattle.asset_names.specs.declared.steps.Kind.{Kind}
use Rattle.asset_names.specs.declared.steps.Step.{Step}
use Rattle.asset_names.specs.declared.steps.Step.TheVariants.{Initiate, Begin, Read, Write, Add, Complete, Permit, PermitAny, Delegate, Depend, Commit, Abort, WaitFor}
use Rattle.asset_names.specs.InSet.{in_set}
use Rattle.asset_names.specs.Arrows.{Arrow, lists, has_arrow}
use Rattle.asset_names.specs.OpSets.{has_op}
use Rattle.asset_names.specs.Paths.{same_kind}
use Rattle.asset_names.specs.Endings.{dependencies, dependency_by}
use Rattle.asset_names.specs.Groups.{actor, partner}
use Rattle.asset_names.specs.Operations.{Operation, handed_over, operated, operations, holds_object, permits, permitted_by, openers, opened_by}
use Rattle.asset_names.proofs.PermitLemmas.{arrows_permitted}
use Rattle.asset_names.proofs.DelegateLemmas.{arrows_delegated, delegate_arrow}
use Rattle.asset_names.proofs.DependLemmas.{dependencies_more, depend_arrow}
use Rattle.asset_laws.proofs.KeepLinks.{Keeps, LeadAlike, other_name}
use Rattle.asset_laws.proofs.AlikeLemmas.{IsAlike, owned, holds_object_alike}
use Rattle.asset_laws.proofs.KeptSteps.{one_more, passed_over}

-- ---- dependencies

-- a step adds the same dependencies to both
pub kept_dependencies : (some all : List Step) (step : Step) (kind : Kind) (u v : ℕ) → has_arrow (dependencies kind some) u v ≡ has_arrow (dependencies kind all) u v
    → has_arrow (dependencies kind (step ∷ some)) u v ≡ has_arrow (dependencies kind (step ∷ all)) u v
unfolding dependencies has_arrow
kept_dependencies some all step kind u v same = go (dependency_by kind step) where
  go : (arrows : List Arrow) → has_arrow (arrows ++ dependencies kind some) u v ≡ has_arrow (arrows ++ dependencies kind all) u v
  go [] = same
  go (arrow ∷ arrows) = ap (λ b. (eqb arrow.0 u && eqb arrow.1 v) || b) (go arrows)

-- a step of another adds none from a kept transaction or to one
stranger_dependency : (keep : ℕ → Bool) (steps : List Step) (kind k : Kind) (a b : Txn) (u v : ℕ) → (eqb a.0 u && eqb b.0 v) ≡ false
    → has_arrow (dependencies k (Depend kind a b ∷ steps)) u v ≡ has_arrow (dependencies k steps) u v
stranger_dependency keep steps kind k a b u v apart = dependencies_more kind a b steps k u v ∙ rw (apart) (go (same_kind k kind)) where
  go : (same : Bool) → ((same && false) || has_arrow (dependencies k steps) u v) ≡ has_arrow (dependencies k steps) u v
  go true = refl
  go false = refl

pub stranger_dependencies : (keep : ℕ → Bool) (steps : List Step) (step : Step) → keep (actor step).0 ≡ false → keep (partner step).0 ≡ false
    → (kind : Kind) (u v : ℕ) → (keep u ≡ true) ⊎ (keep v ≡ true) → has_arrow (dependencies kind (step ∷ steps)) u v ≡ has_arrow (dependencies kind steps) u v
unfolding dependencies dependency_by actor partner
stranger_dependencies keep steps (Initiate t parent) one other kind u v stays = refl
stranger_dependencies keep steps (Begin t) one other kind u v stays = refl
stranger_dependencies keep steps (Read t x) one other kind u v stays = refl
stranger_dependencies keep steps (Write t x w) one other kind u v stays = refl
stranger_dependencies keep steps (Add t x d) one other kind u v stays = refl
stranger_dependencies keep steps (Complete t) one other kind u v stays = refl
stranger_dependencies keep steps (Permit giver taker obs ops) one other kind u v stays = refl
stranger_dependencies keep steps (Delegate giver taker obs) one other kind u v stays = refl
stranger_dependencies keep steps (Commit t) one other kind u v stays = refl
stranger_dependencies keep steps (Abort t) one other kind u v stays = refl
stranger_dependencies keep steps (WaitFor t) one other kind u v stays = refl
stranger_dependencies keep steps (PermitAny giver obs ops) one other kind u v stays = refl
stranger_dependencies keep steps (Depend k a b) one other kind u v (inl stays) = stranger_dependency keep steps k kind a b u v (rw (other_name keep a.0 u one stays) refl)
stranger_dependencies keep steps (Depend k a b) one other kind u v (inr stays) = stranger_dependency keep steps k kind a b u v (rw (other_name keep b.0 v other stays) (go (eqb a.0 u))) where
  go : (b : Bool) → (b && false) ≡ false
  go true = refl
  go false = refl

-- dependencies keep both ends or neither after a step that does
pub more_dependencies_keep : (keep : ℕ → Bool) (steps : List Step) (step : Step) → keep (actor step).0 ≡ keep (partner step).0 → (kind : Kind)
    → Keeps keep (dependencies kind steps) → Keeps keep (dependencies kind (step ∷ steps))
unfolding dependencies dependency_by actor partner
more_dependencies_keep keep steps (Initiate t parent) same kind keeps = keeps
more_dependencies_keep keep steps (Begin t) same kind keeps = keeps
more_dependencies_keep keep steps (Read t x) same kind keeps = keeps
more_dependencies_keep keep steps (Write t x v) same kind keeps = keeps
more_dependencies_keep keep steps (Add t x d) same kind keeps = keeps
more_dependencies_keep keep steps (Complete t) same kind keeps = keeps
more_dependencies_keep keep steps (Permit giver taker obs ops) same kind keeps = keeps
more_dependencies_keep keep steps (Delegate giver taker obs) same kind keeps = keeps
more_dependencies_keep keep steps (Commit t) same kind keeps = keeps
more_dependencies_keep keep steps (Abort t) same kind keeps = keeps
more_dependencies_keep keep steps (WaitFor t) same kind keeps = keeps
more_dependencies_keep keep steps (PermitAny giver obs ops) same kind keeps = keeps
more_dependencies_keep keep steps (Depend k a b) same kind keeps = λ u v h. elim (depend_arrow k a b steps kind u v h) [
  | inl new ↦ ap keep (sym new.0) ∙ same ∙ ap keep new.1
  | inr old ↦ keeps u v old
]

-- ---- operations

-- a delegation within those who are kept, or within the others, hands over as it does among all operations
handed_filtered : (keep : ℕ → Bool) (giver taker : ℕ) (obs : ObSet) → keep giver ≡ keep taker → (os : List Operation)
    → map (handed_over giver taker obs) (filter (owned keep) os) ≡ filter (owned keep) (map (handed_over giver taker obs) os)
unfolding handed_over owned
handed_filtered keep giver taker obs same [] = refl
handed_filtered keep giver taker obs same (o ∷ os) = rw (owner_kept (eqb o.owner giver) refl (in_set obs o.object)) (go (keep o.owner) (handed_filtered keep giver taker obs same os)) where
  owner_kept : (own : Bool) → eqb o.owner giver ≡ own → (listed : Bool) → keep (cond (own && listed) (record o { owner = taker }) o).owner ≡ keep o.owner
  owner_kept true e true = sym same ∙ ap keep (sym (eqb-true o.owner giver e))
  owner_kept true e false = refl
  owner_kept false e listed = refl

  go : (here : Bool) → map (handed_over giver taker obs) (filter (owned keep) os) ≡ filter (owned keep) (map (handed_over giver taker obs) os)
      → map (handed_over giver taker obs) (cond here (o ∷ filter (owned keep) os) (filter (owned keep) os))
      ≡ cond here (handed_over giver taker obs o ∷ filter (owned keep) (map (handed_over giver taker obs) os)) (filter (owned keep) (map (handed_over giver taker obs) os))
  go true ih = ap (λ rest. handed_over giver taker obs o ∷ rest) ih
  go false ih = ih

-- a delegation between others leaves the operations of those who are kept
unhanded : (keep : ℕ → Bool) (giver taker : ℕ) (obs : ObSet) → keep giver ≡ false → (os : List Operation)
    → map (handed_over giver taker obs) (filter (owned keep) os) ≡ filter (owned keep) os
unfolding handed_over owned
unhanded keep giver taker obs gone [] = refl
unhanded keep giver taker obs gone (o ∷ os) = go (keep o.owner) refl (unhanded keep giver taker obs gone os) where
  flip : keep o.owner ≡ true → eqb o.owner giver ≡ false
  flip stays = by (eqb o.owner giver) refl where
    by : (own : Bool) → eqb o.owner giver ≡ own → own ≡ false
    by false e = refl
    by true e = absurd (false≢true (sym gone ∙ ap keep (sym (eqb-true o.owner giver e)) ∙ stays))

  go : (here : Bool) → keep o.owner ≡ here → map (handed_over giver taker obs) (filter (owned keep) os) ≡ filter (owned keep) os
      → map (handed_over giver taker obs) (cond here (o ∷ filter (owned keep) os) (filter (owned keep) os)) ≡ cond here (o ∷ filter (owned keep) os) (filter (owned keep) os)
  go true e ih = rw (flip e, ih) refl
  go false e ih = ih

pub kept_operations : (keep : ℕ → Bool) (some all : List Step) (step : Step) → keep (actor step).0 ≡ true → keep (partner step).0 ≡ true
    → operations some ≡ filter (owned keep) (operations all) → operations (step ∷ some) ≡ filter (owned keep) (operations (step ∷ all))
unfolding operations operated owned actor partner
kept_operations keep some all (Initiate t parent) one other same = same
kept_operations keep some all (Begin t) one other same = same
kept_operations keep some all (Read t x) one other same = rw (one, same) refl
kept_operations keep some all (Write t x v) one other same = rw (one, same) refl
kept_operations keep some all (Add t x d) one other same = rw (one, same) refl
kept_operations keep some all (Complete t) one other same = same
kept_operations keep some all (Permit giver taker obs ops) one other same = same
kept_operations keep some all (Delegate giver taker obs) one other same = rw (same) (handed_filtered keep giver.0 taker.0 obs (one ∙ sym other) (operations all))
kept_operations keep some all (Depend kind a b) one other same = same
kept_operations keep some all (Commit t) one other same = same
kept_operations keep some all (Abort t) one other same = same
kept_operations keep some all (WaitFor t) one other same = same
kept_operations keep some all (PermitAny giver obs ops) one other same = same

pub stranger_operations : (keep : ℕ → Bool) (some all : List Step) (step : Step) → keep (actor step).0 ≡ false → keep (partner step).0 ≡ false
    → operations some ≡ filter (owned keep) (operations all) → operations some ≡ filter (owned keep) (operations (step ∷ all))
unfolding operations operated owned actor partner
stranger_operations keep some all (Initiate t parent) one other same = same
stranger_operations keep some all (Begin t) one other same = same
stranger_operations keep some all (Read t x) one other same = rw (one) same
stranger_operations keep some all (Write t x v) one other same = rw (one) same
stranger_operations keep some all (Add t x d) one other same = rw (one) same
stranger_operations keep some all (Complete t) one other same = same
stranger_operations keep some all (Permit giver taker obs ops) one other same = same
stranger_operations keep some all (Delegate giver taker obs) one other same =
    same ∙ sym (unhanded keep giver.0 taker.0 obs one (operations all)) ∙ handed_filtered keep giver.0 taker.0 obs (one ∙ sym other) (operations all)
stranger_operations keep some all (Depend kind a b) one other same = same
stranger_operations keep some all (Commit t) one other same = same
stranger_operations keep some all (Abort t) one other same = same
stranger_operations keep some all (WaitFor t) one other same = same
stranger_operations keep some all (PermitAny giver obs ops) one other same = same

-- ---- permits

pub kept_permits : (keep : ℕ → Bool) (some all : List Step) → IsAlike keep some all → (step : Step) → keep (actor step).0 ≡ true → (x : ℕ) (op : Op)
    → LeadAlike keep (permits (step ∷ some) x op) (permits (step ∷ all) x op)
unfolding actor permits permitted_by
kept_permits keep some all alike step = by step where
  Goal : Step → ℕ → Op → ℕ → ℕ → Type 0
  Goal step x op u v = has_arrow (permits (step ∷ some) x op) u v ≡ has_arrow (permits (step ∷ all) x op) u v

  by : (step : Step) → keep (actor step).0 ≡ true → (x : ℕ) (op : Op) (u v : ℕ) → keep u ≡ true → Goal step x op u v
  by (Initiate t parent) one x op u v stays = alike.permits_alike x op u v stays
  by (Begin t) one x op u v stays = alike.permits_alike x op u v stays
  by (Read t y) one x op u v stays = alike.permits_alike x op u v stays
  by (Write t y w) one x op u v stays = alike.permits_alike x op u v stays
  by (Add t y d) one x op u v stays = alike.permits_alike x op u v stays
  by (Complete t) one x op u v stays = alike.permits_alike x op u v stays
  by (Permit giver taker obs ops) one x op u v stays =
      arrows_permitted giver taker obs ops some x op u v ∙ rw (alike.permits_alike x op u v stays) refl ∙ sym (arrows_permitted giver taker obs ops all x op u v)
  by (Delegate giver taker obs) one x op u v stays =
      arrows_delegated giver taker obs some x op u v
      ∙ rw (alike.permits_alike x op u v stays, alike.permits_alike x op giver.0 v one, holds_object_alike keep some all alike giver.0 x one) refl
      ∙ sym (arrows_delegated giver taker obs all x op u v)
  by (Depend kind a b) one x op u v stays = alike.permits_alike x op u v stays
  by (Commit t) one x op u v stays = alike.permits_alike x op u v stays
  by (Abort t) one x op u v stays = alike.permits_alike x op u v stays
  by (WaitFor t) one x op u v stays = alike.permits_alike x op u v stays
  by (PermitAny giver obs ops) one x op u v stays = alike.permits_alike x op u v stays

pub stranger_permits : (keep : ℕ → Bool) (steps : List Step) (step : Step) → keep (actor step).0 ≡ false → keep (partner step).0 ≡ false → (x : ℕ) (op : Op) (u v : ℕ) → keep u ≡ true
    → has_arrow (permits (step ∷ steps) x op) u v ≡ has_arrow (permits steps x op) u v
unfolding permits permitted_by actor partner
stranger_permits keep steps (Initiate t parent) one other x op u v stays = refl
stranger_permits keep steps (Begin t) one other x op u v stays = refl
stranger_permits keep steps (Read t y) one other x op u v stays = refl
stranger_permits keep steps (Write t y w) one other x op u v stays = refl
stranger_permits keep steps (Add t y d) one other x op u v stays = refl
stranger_permits keep steps (Complete t) one other x op u v stays = refl
stranger_permits keep steps (Permit giver taker obs ops) one other x op u v stays = arrows_permitted giver taker obs ops steps x op u v ∙ rw (other_name keep giver.0 u one stays) refl
stranger_permits keep steps (Delegate giver taker obs) one other x op u v stays = arrows_delegated giver taker obs steps x op u v ∙ rw (other_name keep taker.0 u other stays) refl
stranger_permits keep steps (Depend kind a b) one other x op u v stays = refl
stranger_permits keep steps (Commit t) one other x op u v stays = refl
stranger_permits keep steps (Abort t) one other x op u v stays = refl
stranger_permits keep steps (WaitFor t) one other x op u v stays = refl
stranger_permits keep steps (PermitAny giver obs ops) one other x op u v stays = refl

pub more_permits_keep : (keep : ℕ → Bool) (steps : List Step) (step : Step) → keep (actor step).0 ≡ keep (partner step).0 → (x : ℕ) (op : Op)
    → Keeps keep (permits steps x op) → Keeps keep (permits (step ∷ steps) x op)
unfolding permits permitted_by actor partner
more_permits_keep keep steps (Initiate t parent) same x op keeps = keeps
more_permits_keep keep steps (Begin t) same x op keeps = keeps
more_permits_keep keep steps (Read t y) same x op keeps = keeps
more_permits_keep keep steps (Write t y w) same x op keeps = keeps
more_permits_keep keep steps (Add t y d) same x op keeps = keeps
more_permits_keep keep steps (Complete t) same x op keeps = keeps
more_permits_keep keep steps (Permit giver taker obs ops) same x op keeps = λ u v h.
    elim (or_cases _ (has_arrow (permits steps x op) u v) (sym (arrows_permitted giver taker obs ops steps x op u v) ∙ h)) [
      | inl new ↦ let ends = and_parts (eqb giver.0 u) (eqb taker.0 v) (and_parts (eqb giver.0 u && eqb taker.0 v) _ new).0 in ap keep (sym (eqb-true giver.0 u ends.0)) ∙ same ∙ ap keep (eqb-true taker.0 v ends.1)
      | inr old ↦ keeps u v old
    ]
more_permits_keep keep steps (Delegate giver taker obs) same x op keeps = λ u v h. elim (delegate_arrow giver taker obs steps x op u v h) [
  | inl copy ↦ ap keep (sym copy.0) ∙ sym same ∙ keeps giver.0 v copy.1
  | inr old ↦ keeps u v old
]
more_permits_keep keep steps (Depend kind a b) same x op keeps = keeps
more_permits_keep keep steps (Commit t) same x op keeps = keeps
more_permits_keep keep steps (Abort t) same x op keeps = keeps
more_permits_keep keep steps (WaitFor t) same x op keeps = keeps
more_permits_keep keep steps (PermitAny giver obs ops) same x op keeps = keeps

-- ---- openers

-- a step of a kept transaction adds the same openers to both
opened_alike : (keep : ℕ → Bool) (some all : List Step) → IsAlike keep some all → (step : Step) → keep (actor step).0 ≡ true → (x : ℕ) (op : Op)
    → opened_by step some (openers some x op) x op ≡ opened_by step all (openers all x op) x op
unfolding opened_by actor
opened_alike keep some all alike (Initiate t parent) one x op = refl
opened_alike keep some all alike (Begin t) one x op = refl
opened_alike keep some all alike (Read t y) one x op = refl
opened_alike keep some all alike (Write t y v) one x op = refl
opened_alike keep some all alike (Add t y d) one x op = refl
opened_alike keep some all alike (Complete t) one x op = refl
opened_alike keep some all alike (Permit giver taker obs ops) one x op = refl
opened_alike keep some all alike (PermitAny giver obs ops) one x op = refl
opened_alike keep some all alike (Delegate giver taker obs) one x op = rw (holds_object_alike keep some all alike giver.0 x one, alike.openers_alike x op giver.0 one) refl
opened_alike keep some all alike (Depend kind a b) one x op = refl
opened_alike keep some all alike (Commit t) one x op = refl
opened_alike keep some all alike (Abort t) one x op = refl
opened_alike keep some all alike (WaitFor t) one x op = refl

pub kept_openers : (keep : ℕ → Bool) (some all : List Step) → IsAlike keep some all → (step : Step) → keep (actor step).0 ≡ true → (x : ℕ) (op : Op) (n : ℕ) → keep n ≡ true
    → lists (openers (step ∷ some) x op) n ≡ lists (openers (step ∷ all) x op) n
unfolding openers
kept_openers keep some all alike step one x op n stays =
    ap (λ names. lists (names ++ openers some x op) n) (opened_alike keep some all alike step one x op)
    ∙ one_more (opened_by step all (openers all x op) x op) (openers some x op) (openers all x op) n (alike.openers_alike x op n stays)

-- a step of another adds none who is kept
lone_stranger : (keep : ℕ → Bool) (m n : ℕ) (c : Bool) → keep m ≡ false → keep n ≡ true → lists (cond c (m ∷ []) []) n ≡ false
unfolding lists
lone_stranger keep m n true gone stays = rw (other_name keep m n gone stays) refl
lone_stranger keep m n false gone stays = refl

opened_stranger : (keep : ℕ → Bool) (all : List Step) (step : Step) → keep (actor step).0 ≡ false → keep (partner step).0 ≡ false → (x : ℕ) (op : Op) (n : ℕ) → keep n ≡ true
    → lists (opened_by step all (openers all x op) x op) n ≡ false
unfolding opened_by actor partner lists
opened_stranger keep all (Initiate t parent) one other x op n stays = refl
opened_stranger keep all (Begin t) one other x op n stays = refl
opened_stranger keep all (Read t y) one other x op n stays = refl
opened_stranger keep all (Write t y v) one other x op n stays = refl
opened_stranger keep all (Add t y d) one other x op n stays = refl
opened_stranger keep all (Complete t) one other x op n stays = refl
opened_stranger keep all (Permit giver taker obs ops) one other x op n stays = refl
opened_stranger keep all (PermitAny giver obs ops) one other x op n stays = lone_stranger keep giver.0 n (in_set (Listed obs) x && has_op ops op) one stays
opened_stranger keep all (Delegate giver taker obs) one other x op n stays = lone_stranger keep taker.0 n ((in_set obs x && holds_object all giver.0 x) && lists (openers all x op) giver.0) other stays
opened_stranger keep all (Depend kind a b) one other x op n stays = refl
opened_stranger keep all (Commit t) one other x op n stays = refl
opened_stranger keep all (Abort t) one other x op n stays = refl
opened_stranger keep all (WaitFor t) one other x op n stays = refl

pub stranger_openers : (keep : ℕ → Bool) (all : List Step) (step : Step) → keep (actor step).0 ≡ false → keep (partner step).0 ≡ false → (x : ℕ) (op : Op) (n : ℕ) → keep n ≡ true
    → lists (openers (step ∷ all) x op) n ≡ lists (openers all x op) n
unfolding openers
stranger_openers keep all step one other x op n stays = passed_over (opened_by step all (openers all x op) x op) (openers all x op) n (opened_stranger keep all step one other x op n stays)
