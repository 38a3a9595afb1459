-- Entries of a history, and which of their steps took effect.
use Rattle.std.specs.Prelude.{ℕ, ℤ, pos, Bool, true, false, cond, ◌==◌, List, [], ◌∷◌, map, flat_map, Option, None}
use Rattle.asset_names.specs.declared.names.Txn.{Txn}
use Rattle.asset_names.specs.declared.names.Ob.{Ob}
use Rattle.asset_names.specs.declared.steps.Step.{Step}
use Rattle.asset_names.specs.declared.steps.Step.TheVariants.{Initiate, Begin, Read, Write, Add, Complete, Permit, PermitAny, Delegate, Depend, Commit, Abort}
use Rattle.asset_names.specs.declared.replies.Reply.{Reply}
use Rattle.asset_names.specs.declared.replies.Reply.TheVariants as Reply'

-- the objects that exist, each with its opening value
abbrev pub Opening : Type 0
Opening = List (Ob × ℤ)

-- the objects that exist
abbrev pub objects_of : Opening → List ℕ
objects_of opening = map (λ (pair : Ob × ℤ). pair.0.0) opening

-- a step and the reply that it got
abbrev pub Entry : Type 0
Entry = Step × Reply

-- whether a step with this reply took effect; a wait for a transaction changes nothing, whatever it answers
unfoldable pub takes_effect : Step → Reply → Bool
takes_effect (Initiate t parent) Reply'.Done = true
takes_effect (Begin t) Reply'.Done = true
takes_effect (Read t x) (Reply'.Value v) = true
takes_effect (Write t x v) Reply'.Done = true
takes_effect (Add t x d) Reply'.Done = true
takes_effect (Complete t) Reply'.Done = true
takes_effect (Permit giver taker obs ops) Reply'.Done = true
takes_effect (PermitAny giver obs ops) Reply'.Done = true
takes_effect (Delegate giver taker obs) Reply'.Done = true
takes_effect (Depend kind a b) Reply'.Done = true
takes_effect (Commit t) Reply'.Committed = true
takes_effect (Abort t) Reply'.Aborted = true
takes_effect step reply = false

-- the value that a write asks for or that an add adds, and 0 of another step
unfoldable pub value_asked : Step → ℤ
value_asked (Write t x v) = v
value_asked (Add t x d) = d
value_asked step = pos 0

-- the steps that took effect, newest first as the entries are
unfoldable pub applied : List Entry → List Step
applied [] = []
applied (entry ∷ older) = cond (takes_effect entry.0 entry.1) (entry.0 ∷ applied older) (applied older)

-- the transaction that the step initiates, if it initiates one
unfoldable pub initiated_by : Step → List ℕ
initiated_by (Initiate t parent) = t.0 ∷ []
initiated_by step = []

-- the transaction that the step begins, if it begins one
unfoldable pub begun_by : Step → List ℕ
begun_by (Begin t) = t.0 ∷ []
begun_by step = []

-- the transaction that the step completes, if it completes one
unfoldable pub completed_by : Step → List ℕ
completed_by (Complete t) = t.0 ∷ []
completed_by step = []

-- the transactions that were initiated, the last one first
unfoldable pub initiated : List Step → List ℕ
initiated steps = flat_map initiated_by steps

-- the transactions that were begun, the last one first
unfoldable pub begun : List Step → List ℕ
begun steps = flat_map begun_by steps

-- the transactions that were completed, the last one first
unfoldable pub completed : List Step → List ℕ
completed steps = flat_map completed_by steps

-- the parent that the step gives to t, or else the one before
unfoldable pub parent_by : Step → ℕ → Option Txn → Option Txn
parent_by (Initiate u parent) t before = cond (u.0 == t) parent before
parent_by step t before = before

-- the parent that t was given at its initiation, if it was given one
unfoldable pub parent_of : List Step → ℕ → Option Txn
parent_of [] t = None
parent_of (step ∷ older) t = parent_by step t (parent_of older t)
