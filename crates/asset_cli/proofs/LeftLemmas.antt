-- What a script leaves: a legal history, in which each entry had room, of steps and objects that a script can say.
use Rattle.std.proofs.Common.{◌≡◌, ℕ, ◌+◌, Bool, true, false, cond, List, [], ◌∷◌, ◌++◌, refl}
use Rattle.asset_names.specs.declared.steps.Step.{Step}
use Rattle.asset_names.specs.declared.replies.Outcome.{Outcome}
use Rattle.asset_names.specs.declared.replies.Outcome.TheVariants.{Answer, Wait}
use Rattle.asset_names.specs.Steps.{Opening, objects_of}
use Rattle.asset_names.specs.Answers.{IsLegal}
use Rattle.asset_names.specs.Operations.{exists}
use Rattle.asset_names.specs.Sets.{HasNoDouble, twice}
use Rattle.asset_entries.specs.Recorded.{Recorded, opened, answer_to, after, with_entry, has_room}
use Rattle.asset_grammar.specs.declared.grammar.Command.TheVariants.{Ask, Object}
use Rattle.asset_grammar.specs.declared.grammar.Line.{Line}
use Rattle.asset_grammar.specs.declared.grammar.Line.TheVariants.{Blank, Command, Bad}
use Rattle.asset_grammar.specs.Grammar.{line_of}
use Rattle.asset_grammar.specs.Lines.{lines}
use Rattle.asset_grammar.specs.Writable.{IsWritable}
use Rattle.asset_grammar.proofs.ParsedLemmas.{asked_writable, object_writable}
use Rattle.asset_scripts.specs.Transcript.{finished, stopped, with_prefix, joined_by, step_line, steps_transcript, object_line, objects_transcript, transcript}
use Rattle.asset_scripts.proofs.OpeningLemmas.{no_double_more}
use Rattle.asset_scripts.specs.declared.prints.Prints.{Prints}
use Rattle.asset_cli.specs.Again.{FitThroughout}
use Rattle.asset_cli.proofs.WritableLemmas.{EntriesWritable, OpeningWritable, opening_push}

pub record IsConsistent (h : Recorded) : Type 0 where
  pub written : OpeningWritable h.opening
  pub different : HasNoDouble (objects_of h.opening)
  pub writable : EntriesWritable h.entries
  pub legal : IsLegal h.opening h.entries
  pub fit : FitThroughout h.entries h.capacity

-- a step that a line asks leaves it so
joined_sound : (h : Recorded) (step : Step) → IsConsistent h → IsWritable step → IsConsistent (joined_by h step (answer_to h step))
unfolding joined_by after answer_to has_room with_entry IsLegal FitThroughout
joined_sound h step sound says = go (answer_to h step) refl (has_room h step (answer_to h step)) refl where
  go : (outcome : Outcome) → answer_to h step ≡ outcome → (room : Bool) → has_room h step outcome ≡ room → IsConsistent (cond room (after h step outcome) h)
  go outcome e false r = sound
  go Wait e true r = sound
  go (Answer reply) e true r = record {
    written = sound.written;
    different = sound.different;
    writable = (says, sound.writable);
    legal = (e, sound.legal);
    fit = (r, sound.fit);
  }

steps_sound : (prints : Prints) (ls : List (List ℕ)) (n : ℕ) (h : Recorded) → IsConsistent h → IsConsistent (steps_transcript prints ls n h).history
unfolding steps_transcript finished step_line with_prefix stopped
steps_sound prints [] n h sound = finished_sound where
  finished_sound : IsConsistent (finished h).history
  finished_sound = sound
steps_sound prints (line ∷ more) n h sound = go (line_of line) refl (λ later later_sound. steps_sound prints more (n + 1) later later_sound) where
  go : (said : Line) → line_of line ≡ said → ((later : Recorded) → IsConsistent later → IsConsistent (steps_transcript prints more (n + 1) later).history)
      → IsConsistent (step_line prints said n h (λ later. steps_transcript prints more (n + 1) later)).history
  go Blank e later = later h sound
  go (Command (Ask step)) e later = later _ (joined_sound h step sound (asked_writable line step e))
  go (Command (Object given)) e later = sound
  go Bad e later = sound

opened_sound : (opening : Opening) (capacity : ℕ) → OpeningWritable opening → HasNoDouble (objects_of opening) → IsConsistent (opened opening capacity)
unfolding opened IsLegal FitThroughout
opened_sound opening capacity written different = record { written = written; different = different; writable = tt; legal = tt; fit = tt }

objects_sound : (prints : Prints) (ls : List (List ℕ)) (n : ℕ) (opening : Opening) (capacity : ℕ) → OpeningWritable opening → HasNoDouble (objects_of opening) → IsConsistent (objects_transcript prints ls n opening capacity).history
unfolding objects_transcript finished object_line stopped
objects_sound prints [] n opening capacity written different = finished_sound where
  finished_sound : IsConsistent (finished (opened opening capacity)).history
  finished_sound = opened_sound opening capacity written different
objects_sound prints (line ∷ more) n opening capacity written different =
    go (line_of line) refl (λ later w d. objects_sound prints more (n + 1) later capacity w d) where
      sound : IsConsistent (opened opening capacity)
      sound = opened_sound opening capacity written different

      go : (said : Line) → line_of line ≡ said → ((later : Opening) → OpeningWritable later → HasNoDouble (objects_of later) → IsConsistent (objects_transcript prints more (n + 1) later capacity).history)
          → IsConsistent (object_line said opening (λ later. objects_transcript prints more (n + 1) later capacity) (steps_transcript prints (line ∷ more) n (opened opening capacity)) (stopped n (opened opening capacity))).history
      go Blank e later = later opening written different
      go (Command (Ask step)) e later = steps_sound prints (line ∷ more) n (opened opening capacity) sound
      go Bad e later = sound
      go (Command (Object given)) e later = choose (exists opening given.0.0) refl where
        choose : (there : Bool) → exists opening given.0.0 ≡ there
            → IsConsistent (cond there (stopped n (opened opening capacity)) (objects_transcript prints more (n + 1) (opening ++ given ∷ []) capacity)).history
        choose true h = sound
        choose false h = later (opening ++ given ∷ []) (opening_push opening given written (object_writable line given e)) (no_double_more opening given h different)

-- the history that a script leaves is sound
pub left_sound : (prints : Prints) (bytes : List ℕ) (capacity : ℕ) → IsConsistent (transcript prints bytes capacity).history
unfolding transcript HasNoDouble twice
left_sound prints bytes capacity = objects_sound prints (lines bytes) 1 [] capacity tt (λ m. refl)
