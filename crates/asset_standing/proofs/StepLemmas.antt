-- Steps of a script, and the lines that ask for them.
use Rattle.std.proofs.Common.{◌≡◌, ℕ, ◌+◌, Bool, true, false, cond, List, ◌∷◌, Some, refl, sym, ap, subst, ◌∙◌}
use Rattle.std.specs.Prelude.{ℤ, Result, Ok, Err}
use Rattle.asset_names.specs.declared.names.Ob.{Ob}
use Rattle.asset_names.specs.declared.replies.Fault.{Fault}
use Rattle.asset_names.specs.declared.replies.Fault.TheVariants.{Full}
use Rattle.asset_names.specs.declared.replies.Outcome.{Outcome}
use Rattle.asset_names.specs.declared.steps.Step.{Step}
use Rattle.asset_entries.specs.Recorded.{answer_to, after, has_room}
use Rattle.asset_core.specs.Pending.{Facility, pending_after}
use Rattle.asset_core.specs.Stepped.{IsStep}
use Rattle.asset_grammar.specs.declared.grammar.Command.TheVariants.{Object, Ask}
use Rattle.asset_grammar.specs.declared.grammar.Line.TheVariants.{Blank, Command, Bad}
use Rattle.asset_grammar.specs.Grammar.{line_of}
use Rattle.asset_standing.specs.Standing.{stands, stepped_as, stepped, line_left, steps_left}

-- there is room for a step that was answered
room_for : (before later : Facility) (step : Step) (outcome : Outcome) → IsStep before step (Ok outcome) later → has_room before.history step (answer_to before.history step) ≡ true
room_for before later step outcome done = go (has_room before.history step (answer_to before.history step)) refl where
  go : (room : Bool) → has_room before.history step (answer_to before.history step) ≡ room → room ≡ true
  go true e = refl
  go false e = let wrong : Ok outcome ≡ Err Full = done.full.1 e in cc wrong

-- it is asked for as its answer says
pub answered_step : (before later : Facility) (step : Step) (result : Result Outcome Fault) (outcome : Outcome) → IsStep before step result later → result ≡ Ok outcome → later ≡ stepped before step
unfolding stepped stepped_as
answered_step before later step result outcome done is =
    let it = subst (λ (r : Result Outcome Fault). IsStep before step r later) is done in
    (λ i. record { history = (it.grown ∙ ap (after before.history step) it.answered) i; pending = (it.pending ∙ ap (pending_after before step) it.answered) i })
    ∙ sym (ap (λ (room : Bool). cond room (record { history = after before.history step (answer_to before.history step); pending = pending_after before step (answer_to before.history step) }) before) (room_for before later step outcome it))

-- a step for which there is no room changes nothing
pub full_step : (before later : Facility) (step : Step) (result : Result Outcome Fault) → IsStep before step result later → result ≡ Err Full → later ≡ stepped before step
unfolding stepped stepped_as
full_step before later step result done is =
    let it = subst (λ (r : Result Outcome Fault). IsStep before step r later) is done in
    it.fault
    ∙ sym (ap (λ (room : Bool). cond room (record { history = after before.history step (answer_to before.history step); pending = pending_after before step (answer_to before.history step) }) before) (it.full.0 refl))

-- ---- the lines among the steps
module _ (line : List ℕ) (more : List (List ℕ)) (n : ℕ) (facility : Facility) where
  pub left_blank : line_of line ≡ Blank → steps_left (line ∷ more) n facility ≡ steps_left more (n + 1) facility
  unfolding steps_left line_left
  left_blank is = rw is refl

  pub left_step : (step : Step) → line_of line ≡ Command (Ask step) → steps_left (line ∷ more) n facility ≡ steps_left more (n + 1) (stepped facility step)
  unfolding steps_left line_left
  left_step step is = rw is refl

  pub left_object : (object : Ob × ℤ) → line_of line ≡ Command (Object object) → steps_left (line ∷ more) n facility ≡ stands facility (Some n)
  unfolding steps_left line_left
  left_object object is = rw is refl

  pub left_bad : line_of line ≡ Bad → steps_left (line ∷ more) n facility ≡ stands facility (Some n)
  unfolding steps_left line_left
  left_bad is = rw is refl
