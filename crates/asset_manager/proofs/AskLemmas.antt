-- What a session is told by a call that waited before it was answered.
use Rattle.std.proofs.Common.{◌≡◌, ◌≤◌, ◌⊎◌, inl, inr, List, length, subst, ◌∙◌, le_trans}
use Rattle.std.specs.Prelude.{Result}
use Rattle.asset_names.specs.declared.steps.Step.{Step}
use Rattle.asset_names.specs.declared.replies.Outcome.{Outcome}
use Rattle.asset_names.specs.declared.replies.Fault.{Fault}
use Rattle.asset_audit.specs.Audited.{Call}
use Rattle.asset_core.specs.Stepped.{IsStep}
use Rattle.asset_manager.specs.Listed.{Lists}
use Rattle.asset_manager.specs.Asker.{Asker}
use Rattle.asset_manager.specs.Serves.{IsUnlisted, IsServed}

-- what is served after some waits is served from the start
pub served_later : (session given later : Asker) (step : Step) (result : Result Outcome Fault) → given.list.calls ≡ session.list.calls → session.list.room ≤ given.list.room → given.of ≡ session.of → given.seen ≡ session.seen
    → IsServed given step result later → IsServed session step result later
served_later session given later step result same room of seen is = record {
  before = is.before;
  later = is.later;
  held = is.held;
  serves = record {
    steps = go is.serves.steps;
    lists = subst (λ (calls : List Call). Lists (length is.before.history.entries) calls step result later.list.calls) same is.serves.lists;
    room = le_trans room is.serves.room;
    of = is.serves.of ∙ of;
    seen = is.serves.seen ∙ seen;
  };
} where
  go : IsStep is.before step result is.later ⊎ IsUnlisted is.before given result is.later → IsStep is.before step result is.later ⊎ IsUnlisted is.before session result is.later
  go (inl steps) = inl steps
  go (inr unlisted) = inr (record { memory = unlisted.memory; full = le_trans room (subst (λ (calls : List Call). given.list.room ≤ length calls) same unlisted.full); same = unlisted.same })
