-- A history as callers see it, and what a step makes of it.
use Rattle.std.specs.Prelude.{ℕ, ◌+◌, Bool, true, false, List, [], ◌∷◌, length}
use Rattle.asset_names.specs.declared.steps.Step.{Step}
use Rattle.asset_names.specs.declared.replies.Reply.{Reply}
use Rattle.asset_names.specs.declared.replies.Outcome.{Outcome}
use Rattle.asset_names.specs.declared.replies.Outcome.TheVariants.{Answer, Wait}
use Rattle.asset_names.specs.Steps.{Opening, Entry, applied}
use Rattle.asset_names.specs.Answers.{answer}
use Rattle.asset_names.specs.Room.{fits, changes_status}

-- the opening, the entries with the newest first, and how many entries there is room for in all
pub record Recorded : Type 0 where
  pub opening : Opening
  pub entries : List Entry
  pub capacity : ℕ

-- the history of an opening, before the first entry
unfoldable pub opened : Opening → ℕ → Recorded
opened opening capacity = record { opening = opening; entries = []; capacity = capacity }

-- the history with one more entry
unfoldable pub with_entry : Recorded → Step → Reply → Recorded
with_entry history step reply = record history { entries = (step, reply) ∷ history.entries }

-- the answer to a step at the end of the history
unfoldable pub answer_to : Recorded → Step → Outcome
answer_to history step = answer history.opening (applied history.entries) step

-- the history after a step with this outcome: a reply is an entry, and a wait is not
unfoldable pub after : Recorded → Step → Outcome → Recorded
after history step (Answer reply) = with_entry history step reply
after history step Wait = history

-- Whether there is room for what the outcome adds: its entry, and what is owed to live transactions after it. A
-- wait adds nothing.
unfoldable pub has_room : Recorded → Step → Outcome → Bool
has_room history step (Answer reply) = fits (applied ((step, reply) ∷ history.entries)) (length history.entries + 1) history.capacity
has_room history step Wait = true

-- whether the outcome is that of a complete, a commit or an abort that changes a status
unfoldable pub is_ending : Recorded → Step → Outcome → Bool
is_ending history step (Answer reply) = changes_status (applied history.entries) step reply
is_ending history step Wait = false
