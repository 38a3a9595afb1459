-- What a step does, by how it ends.
use Rattle.std.proofs.Common.{◌≡◌, true, false, refl, sym, ◌∙◌, ap, Ok, Err}
use Rattle.std.proofs.lemmas.Bool.{true≢false}
use Rattle.asset_names.specs.declared.steps.Step.{Step}
use Rattle.asset_names.specs.declared.replies.Reply.{Reply}
use Rattle.asset_names.specs.declared.replies.Fault.TheVariants.{Full, NoMemory}
use Rattle.asset_names.specs.declared.replies.Outcome.TheVariants.{Answer, Wait}
use Rattle.asset_names.specs.Steps.{takes_effect}
use Rattle.asset_names.specs.Answers.{takes_memory, outcome_takes_effect}
use Rattle.asset_names.specs.Sources.{is_operation}
use Rattle.asset_entries.specs.Recorded.{answer_to, after, with_entry, has_room, is_ending}
use Rattle.asset_core.specs.Pending.{Facility, pending_after}
use Rattle.asset_core.specs.Stepped.{IsStep}

-- a step that is answered, for which there is room
pub answered_step : (before later : Facility) (step : Step) (reply : Reply) → answer_to before.history step ≡ Answer reply → has_room before.history step (Answer reply) ≡ true
    → later.history ≡ with_entry before.history step reply → later.pending ≡ pending_after before step (Answer reply) → IsStep before step (Ok (Answer reply)) later
unfolding after
answered_step before later step reply answer room grown pending = record {
  answered = sym answer;
  grown = grown;
  pending = pending;
  still = λ waits none. absurd cc;
  full = (λ full. absurd cc, λ none. absurd (true≢false (sym room ∙ ap (has_room before.history step) (sym answer) ∙ none)));
  memory = λ none. absurd cc;
  ending = λ ends. refl;
  fault = tt;
}

-- a step that waits
pub waiting_step : (before later : Facility) (step : Step) → answer_to before.history step ≡ Wait → later.history ≡ before.history → later.pending ≡ pending_after before step Wait
    → (is_operation step ≡ false → later ≡ before) → IsStep before step (Ok Wait) later
unfolding after has_room
waiting_step before later step answer same pending still = record {
  answered = sym answer;
  grown = same;
  pending = pending;
  still = λ waits none. still none;
  full = (λ full. absurd cc, λ none. absurd (true≢false (sym (ap (has_room before.history step) answer) ∙ none)));
  memory = λ none. absurd cc;
  ending = λ ends. refl;
  fault = tt;
}

-- a step that is answered, for which there is no room
pub full_step : (before later : Facility) (step : Step) (reply : Reply) → answer_to before.history step ≡ Answer reply → has_room before.history step (Answer reply) ≡ false
    → (is_ending before.history step (Answer reply) ≡ true → has_room before.history step (Answer reply) ≡ true) → later ≡ before → IsStep before step (Err Full) later
full_step before later step reply answer room ending same = record {
  answered = tt;
  grown = tt;
  pending = tt;
  still = λ waits none. same;
  full = (λ full. ap (has_room before.history step) answer ∙ room, λ none. refl);
  memory = λ none. absurd cc;
  ending = λ ends. absurd (true≢false (sym (ending (ap (is_ending before.history step) (sym answer) ∙ ends)) ∙ room));
  fault = same;
}

-- a step that is answered, for which memory runs out
pub lacking_step : (before later : Facility) (step : Step) (reply : Reply) → answer_to before.history step ≡ Answer reply → has_room before.history step (Answer reply) ≡ true
    → takes_memory step ≡ true → takes_effect step reply ≡ true → is_ending before.history step (Answer reply) ≡ false → later ≡ before → IsStep before step (Err NoMemory) later
unfolding outcome_takes_effect
lacking_step before later step reply answer room memory effect ending same = record {
  answered = tt;
  grown = tt;
  pending = tt;
  still = λ waits none. same;
  full = (λ full. absurd cc, λ none. absurd (true≢false (sym room ∙ ap (has_room before.history step) (sym answer) ∙ none)));
  memory = λ none. (memory, ap (outcome_takes_effect step) answer ∙ effect);
  ending = λ ends. absurd (true≢false (sym ends ∙ ap (is_ending before.history step) answer ∙ ending));
  fault = same;
}
