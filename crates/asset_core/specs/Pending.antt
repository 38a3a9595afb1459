-- The facility as callers see it: its history, and the pending request of each live transaction.
use Rattle.std.specs.Prelude.{ℕ, cond, ◌==◌, List, [], ◌∷◌, ◌++◌, map, filter, find, flat_map, Option, Some, None}
use Rattle.asset_names.specs.declared.names.Txn.{Txn}
use Rattle.asset_names.specs.declared.names.Ob.{Ob}
use Rattle.asset_names.specs.declared.operations.Op.{Op}
use Rattle.asset_names.specs.declared.operations.Op.TheVariants as Op'
use Rattle.asset_names.specs.declared.steps.Step.{Step}
use Rattle.asset_names.specs.declared.steps.Step.TheVariants.{Initiate, Read, Write, Add}
use Rattle.asset_names.specs.declared.replies.Outcome.{Outcome}
use Rattle.asset_names.specs.declared.replies.Outcome.TheVariants.{Answer, Wait}
use Rattle.asset_names.specs.Steps.{Opening, takes_effect, applied}
use Rattle.asset_names.specs.Endings.{live}
use Rattle.asset_names.specs.Answers.{outcome_takes_effect}
use Rattle.asset_entries.specs.Recorded.{Recorded, opened, after}

-- a live transaction with its pending request: the last one that waits, if there is one
pub record Pending : Type 0 where
  pub name : ℕ
  pub request : Option (Ob × Op)

-- the history, and the pending requests of the live transactions in order of initiation
pub record Facility : Type 0 where
  pub history : Recorded
  pub pending : List Pending

-- the facility before the first step
unfoldable pub facility_of : Opening → ℕ → Facility
facility_of opening capacity = record { history = opened opening capacity; pending = [] }

-- the pending request after a request of the same transaction: one that waits takes its place, after one that
-- is granted nothing is pending, and a refused one changes nothing
unfoldable pub request_after : Step → Ob → Op → Outcome → Option (Ob × Op) → Option (Ob × Op)
request_after step x op Wait before = Some (x, op)
request_after step x op (Answer reply) before = cond (takes_effect step reply) None before

-- an operation may change the pending request of its own transaction, as `request_after` says, and no other step changes one
unfoldable pub asker_after : Step → Outcome → Pending → Pending
asker_after (Read t x) outcome asker = cond (asker.name == t.0) (record asker { request = request_after (Read t x) x Op'.Read outcome asker.request }) asker
asker_after (Write t x v) outcome asker = cond (asker.name == t.0) (record asker { request = request_after (Write t x v) x Op'.Write outcome asker.request }) asker
asker_after (Add t x v) outcome asker = cond (asker.name == t.0) (record asker { request = request_after (Add t x v) x Op'.Add outcome asker.request }) asker
asker_after step outcome asker = asker

-- a new transaction comes last, and nothing of it is pending
unfoldable pub new_asker : Step → Outcome → List Pending
new_asker (Initiate t parent) outcome = cond (outcome_takes_effect (Initiate t parent) outcome) (record { name = t.0; request = None } ∷ []) []
new_asker step outcome = []

-- the pending requests after a step: those of the transactions that are live then
unfoldable pub pending_after : Facility → Step → Outcome → List Pending
pending_after facility step outcome =
    filter (λ (asker : Pending). live (applied (after facility.history step outcome).entries) asker.name)
    (map (asker_after step outcome) facility.pending ++ new_asker step outcome)

-- the request of one who is found
unfoldable pub request_of : Option Pending → Option (Ob × Op)
request_of None = None
request_of (Some asker) = asker.request

-- the pending request of a transaction, if there is one
unfoldable pub pending_of : ℕ → List Pending → Option (Ob × Op)
pending_of t pending = request_of (find (λ (asker : Pending). asker.name == t) pending)

-- the transaction as a waiter for x, if its pending request is for x
unfoldable pub waiter_of : ℕ → ℕ → Option (Ob × Op) → List (Txn × Op)
waiter_of x t None = []
waiter_of x t (Some request) = cond (request.0.0 == x) ((record { 0 = t }, request.1) ∷ []) []

-- those who wait for x, in order of initiation, each with the operation that it asked
unfoldable pub waiting_for : ℕ → List Pending → List (Txn × Op)
waiting_for x pending = flat_map (λ (asker : Pending). waiter_of x asker.name asker.request) pending
