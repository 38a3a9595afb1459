-- What the facility's own invariant says.
use Rattle.std.proofs.Common.{◌≡◌, Bool, true, false, refl, sym, ◌∙◌, ap, cond, List, ◌∷◌, ◌++◌, filter, map}
use Rattle.std.specs.Prelude.{Option}
use Rattle.std.proofs.lemmas.Bool.{false≢true}
use Rattle.asset_names.specs.declared.names.Txn.{Txn}
use Rattle.asset_names.specs.declared.steps.Step.{Step}
use Rattle.asset_names.specs.declared.steps.Step.TheVariants.{Initiate, Begin, Read, Write, Add, Complete, Permit, PermitAny, Delegate, Depend, Commit, Abort, WaitFor}
use Rattle.asset_names.specs.declared.replies.Reply.{Reply}
use Rattle.asset_names.specs.declared.replies.Outcome.TheVariants.{Answer}
use Rattle.asset_names.specs.Arrows.{lists}
use Rattle.asset_names.specs.Steps.{Opening, Entry, takes_effect, applied, initiated}
use Rattle.asset_names.specs.Endings.{live}
use Rattle.asset_names.specs.Answers.{answer, takes_memory}
use Rattle.asset_names.specs.Room.{owed, changes_status}
use Rattle.asset_names.proofs.LegalLemmas.{legal_orderly, initiate_new}
use Rattle.asset_names.specs.Orderly.{IsOrderly}
use Rattle.asset_trans.specs.TransRows.{owed_in}
use Rattle.asset_ends.specs.Standing.{Standing, values_of}
use Rattle.asset_entries.specs.Recorded.{Recorded}
use Rattle.asset_ends.specs.Shows.{Shows}
use Rattle.asset_core.specs.Pending.{Pending, asker_after, new_asker}
use Rattle.asset_steps.specs.Ready.{locks_after}
use Rattle.asset_core.specs.Tables.{IsValid, pending_in}
use Rattle.asset_ends.proofs.ShowsLemmas.{owed_shown}
use Rattle.asset_names.proofs.AppliedLemmas.{applied_with_effect, applied_without_effect}
use Rattle.asset_core.proofs.PendingLemmas.{pending_requests, askers_carried, askers_refused}

pub valid_orderly : (history : Recorded) (tables : Standing) → IsValid history tables → IsOrderly (applied history.entries)
valid_orderly history tables kept = legal_orderly history.opening history.entries kept.legal

-- what the table counts is what is owed
pub valid_owed : (history : Recorded) (tables : Standing) → IsValid history tables → owed_in tables.trans ≡ owed (applied history.entries)
valid_owed history tables kept = owed_shown history.opening (applied history.entries) _ _ _ _ _ kept.stand (valid_orderly history tables kept)

-- a step that takes memory changes no status for good
pub no_ending : (steps : List Step) (step : Step) (reply : Reply) → takes_memory step ≡ true → changes_status steps step reply ≡ false
unfolding takes_memory changes_status
no_ending steps (Initiate t parent) reply takes = refl
no_ending steps (Read t x) reply takes = refl
no_ending steps (Write t x v) reply takes = refl
no_ending steps (Add t x v) reply takes = refl
no_ending steps (Permit giver taker obs ops) reply takes = refl
no_ending steps (PermitAny giver obs ops) reply takes = refl
no_ending steps (Delegate giver taker obs) reply takes = refl
no_ending steps (Depend kind a b) reply takes = refl
no_ending steps (Begin t) reply takes = refl
no_ending steps (WaitFor t) reply takes = refl
no_ending steps (Complete t) reply takes = absurd (false≢true takes)
no_ending steps (Commit t) reply takes = absurd (false≢true takes)
no_ending steps (Abort t) reply takes = absurd (false≢true takes)

-- a name that is initiated is new
new_in : (opening : Opening) (steps : List Step) (step : Step) (reply : Reply) → answer opening steps step ≡ Answer reply → takes_effect step reply ≡ true
    → (t : Txn) (parent : Option Txn) → step ≡ Initiate t parent → lists (initiated steps) t.0 ≡ false
new_in opening steps step reply is carried t parent e = initiate_new opening steps t parent reply (rw e at is) (rw e at carried)

-- the pending requests after an answer
pub askers_followed : (opening : Opening) (older : List Entry) (tables : Standing) (step : Step) (reply : Reply) → Shows opening (applied older) (values_of tables) → answer opening (applied older) step ≡ Answer reply
    → pending_requests (cond (takes_effect step reply) (locks_after step tables) tables.locks)
    ≡ filter (λ (asker : Pending). live (applied ((step, reply) ∷ older)) asker.name) (map (asker_after step (Answer reply)) (pending_in tables.locks) ++ new_asker step (Answer reply))
unfolding pending_in
askers_followed opening older tables step reply stand is = go (takes_effect step reply) refl where
  kept_askers : List Pending
  kept_askers = map (asker_after step (Answer reply)) (pending_in tables.locks) ++ new_asker step (Answer reply)

  go : (carried : Bool) → takes_effect step reply ≡ carried → pending_requests (cond carried (locks_after step tables) tables.locks) ≡ filter (λ (asker : Pending). live (applied ((step, reply) ∷ older)) asker.name) kept_askers
  go true e =
      sym (ap (λ steps. filter (λ (asker : Pending). live steps asker.name) kept_askers) (applied_with_effect (step, reply) older e)
      ∙ askers_carried opening (applied older) tables step reply stand e (new_in opening (applied older) step reply is e))
  go false e =
      sym (ap (λ steps. filter (λ (asker : Pending). live steps asker.name) kept_askers) (applied_without_effect (step, reply) older e)
      ∙ askers_refused opening (applied older) tables step reply stand e)
