-- Steps for whose entries there is room whatever they are answered.
use Rattle.std.proofs.Common.{◌≡◌, ◌+◌, ◌≤◌, Bool, true, false, cond, length, refl, arith}
use Rattle.std.proofs.lemmas.Bool.{le-leb}
use Rattle.asset_names.specs.declared.steps.Step.{Step}
use Rattle.asset_names.specs.declared.replies.Reply.{Reply}
use Rattle.asset_names.specs.declared.replies.Outcome.TheVariants.{Answer}
use Rattle.asset_names.specs.Steps.{takes_effect, applied}
use Rattle.asset_names.specs.Answers.{IsLegal}
use Rattle.asset_names.specs.Room.{owed, fits, changes_status, initiates}
use Rattle.asset_names.proofs.AppliedLemmas.{applied_with_effect, applied_without_effect}
use Rattle.asset_names.proofs.LegalLemmas.{legal_orderly}
use Rattle.asset_names.proofs.RoomLemmas.{ending_fits, owed_new, owed_stays}
use Rattle.asset_entries.specs.Recorded.{Recorded, answer_to, has_room}

-- room for one entry, and for two more that an initiate may be owed, is room for any answer
pub step_room : (history : Recorded) (step : Step) (reply : Reply) → IsLegal history.opening history.entries → answer_to history step ≡ Answer reply
    → length history.entries + 1 + owed (applied history.entries) + cond (initiates step) 2 0 ≤ history.capacity → has_room history step (Answer reply) ≡ true
unfolding has_room fits answer_to
step_room history step reply legal is room = go (takes_effect step reply) refl (changes_status (applied history.entries) step reply) refl (initiates step) refl room where
  go : (effect : Bool) → takes_effect step reply ≡ effect → (ends : Bool) → changes_status (applied history.entries) step reply ≡ ends → (new : Bool) → initiates step ≡ new
      → length history.entries + 1 + owed (applied history.entries) + cond new 2 0 ≤ history.capacity → has_room history step (Answer reply) ≡ true
  go false e ends c new n room = le-leb _ _ (rw (applied_without_effect (step, reply) history.entries e) (omega (arith, room)))
  go true e true c new n room = ending_fits history.opening history.entries step reply history.capacity legal (le-leb _ _ (omega (arith, room))) is c
  go true e false c true n room = le-leb _ _ (rw (applied_with_effect (step, reply) history.entries e, owed_new history.opening (applied history.entries) step reply (legal_orderly history.opening history.entries legal) is e n) (omega (arith, room)))
  go true e false c false n room = le-leb _ _ (rw (applied_with_effect (step, reply) history.entries e, owed_stays (applied history.entries) step reply (legal_orderly history.opening history.entries legal) e c n) (omega (arith, room)))
