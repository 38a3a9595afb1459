-- The step that a plain step asks for.
use Rattle.std.specs.Prelude.{ℕ, ◌==◌, true, false, cond, Option, None, Some, option_and_then, option_map}
use Rattle.asset_names.specs.declared.names.Txn.{Txn}
use Rattle.asset_names.specs.declared.names.Ob.{Ob}
use Rattle.asset_names.specs.declared.sets.ObSet.{ObSet}
use Rattle.asset_names.specs.declared.sets.ObSet.TheVariants.{All, Listed}
use Rattle.asset_names.specs.OpSets.{OpSet, op_set}
use Rattle.asset_names.specs.declared.steps.Kind.{Kind}
use Rattle.asset_names.specs.declared.steps.Kind.TheVariants.{Cd, Ad, Gc}
use Rattle.asset_names.specs.declared.steps.Step.{Step}
use Rattle.asset_names.specs.declared.steps.Step.TheVariants.{Initiate, Begin, Read, Write, Add, Complete, Permit, PermitAny, Delegate, Depend, Commit, Abort, WaitFor}
use Rattle.asset_handle.specs.declared.plain.PlainStep.{PlainStep}
use Rattle.asset_handle.specs.Listed.{set_in}

-- the transaction with this number
abbrev pub txn : ℕ → Txn
txn n = record { 0 = n }

-- the object with this number
abbrev pub ob : ℕ → Ob
ob n = record { 0 = n }

-- the operations of a permit: 1 is Read, 2 is Write, 4 is Add, and a sum is all of its terms; no other number says any
unfoldable pub ops_in : ℕ → Option OpSet
ops_in n =
    cond (n == 1) (Some (op_set true false false)) (
    cond (n == 2) (Some (op_set false true false)) (
    cond (n == 3) (Some (op_set true true false)) (
    cond (n == 4) (Some (op_set false false true)) (
    cond (n == 5) (Some (op_set true false true)) (
    cond (n == 6) (Some (op_set false true true)) (
    cond (n == 7) (Some (op_set true true true)) None))))))

-- the kind of a dependency: 1 is Cd, 2 is Ad, 3 is Gc; no other number says one
unfoldable pub kind_in : ℕ → Option Kind
kind_in n = cond (n == 1) (Some Cd) (cond (n == 2) (Some Ad) (cond (n == 3) (Some Gc) None))

-- an initiate, by its detail: without a parent for 0, and with one for 1
unfoldable pub initiate_in : PlainStep → Option Step
initiate_in p = cond (p.detail == 0) (Some (Initiate (txn p.first) None)) (cond (p.detail == 1) (Some (Initiate (txn p.first) (Some (txn p.second)))) None)

-- a permit of a set
unfoldable pub permit_of : PlainStep → OpSet → ObSet → Step
permit_of p ops obs = Permit (txn p.first) (txn p.second) obs ops

-- a permit, if the detail says operations, and the count and the slots say a set
unfoldable pub permit_in : PlainStep → Option Step
permit_in p = option_and_then (λ ops. option_map (permit_of p ops) (set_in p.count p.objects)) (ops_in p.detail)

-- an open permit of a list, and none of all objects
unfoldable pub permit_any_of : PlainStep → OpSet → ObSet → Option Step
permit_any_of p ops All = None
permit_any_of p ops (Listed objects) = Some (PermitAny (txn p.first) objects ops)

-- an open permit, if the detail says operations, and the count and the slots say a list
unfoldable pub permit_any_in : PlainStep → Option Step
permit_any_in p = option_and_then (λ ops. option_and_then (permit_any_of p ops) (set_in p.count p.objects)) (ops_in p.detail)

-- a delegate, if the count and the slots say a set
unfoldable pub delegate_in : PlainStep → Option Step
delegate_in p = option_map (Delegate (txn p.first) (txn p.second)) (set_in p.count p.objects)

-- a depend, if the detail says a kind
unfoldable pub depend_in : PlainStep → Option Step
depend_in p = option_map (λ kind. Depend kind (txn p.first) (txn p.second)) (kind_in p.detail)

-- the step by the number of its kind, if that is from 1 to 13 and the plain step says what such a step needs
unfoldable pub step_in : PlainStep → Option Step
step_in p =
    cond (p.kind == 1) (initiate_in p) (
    cond (p.kind == 2) (Some (Begin (txn p.first))) (
    cond (p.kind == 3) (Some (Read (txn p.first) (ob p.second))) (
    cond (p.kind == 4) (Some (Write (txn p.first) (ob p.second) p.value)) (
    cond (p.kind == 5) (Some (Complete (txn p.first))) (
    cond (p.kind == 6) (permit_in p) (
    cond (p.kind == 7) (delegate_in p) (
    cond (p.kind == 8) (depend_in p) (
    cond (p.kind == 9) (Some (Commit (txn p.first))) (
    cond (p.kind == 10) (Some (Abort (txn p.first))) (
    cond (p.kind == 11) (Some (WaitFor (txn p.first))) (
    cond (p.kind == 12) (Some (Add (txn p.first) (ob p.second) p.value)) (
    cond (p.kind == 13) (permit_any_in p) None))))))))))))
