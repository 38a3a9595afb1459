-- A conversation prints what a run prints, and goes on after a bad line.
use Rattle.std.proofs.Common.{◌≡◌, ℕ, ◌+◌, Bool, true, false, cond, List, [], ◌∷◌, ◌++◌, Option, None, Some, refl, sym, ap, ◌∙◌, append_assoc}
use Rattle.std.specs.Prelude.{is_some}
use Rattle.asset_names.specs.declared.steps.Step.{Step}
use Rattle.asset_names.specs.Steps.{Opening}
use Rattle.asset_names.specs.Operations.{exists}
use Rattle.asset_entries.specs.Recorded.{Recorded, opened, answer_to}
use Rattle.asset_grammar.specs.declared.grammar.Command.TheVariants.{Object, Ask}
use Rattle.asset_grammar.specs.declared.grammar.Line.{Line}
use Rattle.asset_grammar.specs.declared.grammar.Line.TheVariants.{Blank, Command, Bad}
use Rattle.asset_grammar.specs.Grammar.{line_of}
use Rattle.asset_grammar.specs.Lines.{lines}
use Rattle.asset_printing.specs.Texts.{bad_line}
use Rattle.asset_grammar.specs.Words.{words}
use Rattle.asset_scripts.specs.declared.ends.RunEnd.TheVariants.{Finished}
use Rattle.asset_scripts.specs.Transcript.{Transcript, finished, stopped, with_prefix, printed, answered_text, full_text, joined_by, step_line, steps_transcript, object_line, objects_transcript, transcript}
use Rattle.asset_shell.specs.Sessions.{outcome_text}
use Rattle.asset_check.specs.Checked.{mistake_in, object_mistake}
use Rattle.asset_reasons.specs.declared.reasons.Reason.TheVariants.{GivenTwice}
use Rattle.asset_reasons.specs.Mistakes.{Found, is_bad, reason_of, second_word}
use Rattle.asset_reasons.proofs.ReasonLemmas.{has_reason_if_bad}
use Rattle.asset_shell.specs.Laws.{PrintsAsRun}
use Rattle.asset_shell.specs.Sessions.{Session, answer_if, answer_line, new_session, reply_to, said_of_each, session_seen, session_after, session_by, with_object}
use Rattle.asset_shell.specs.Shelled.{shell_text}
use Rattle.asset_scripts.specs.declared.prints.Prints.TheVariants.{Replies}

-- the text is that of the transcript, and goes on only if a line is bad
record Goes (text : List ℕ) (all : Transcript) : Type 0 where
  more : List ℕ
  is : text ≡ all.text ++ more
  same : all.end ≡ Finished → more ≡ []

-- the session from the first step on
abbrev stepping : Recorded → Session
stepping h = record { history = h; stepped = true }

-- the session before it
abbrev opening_by : Opening → ℕ → Session
opening_by opening capacity = record { history = opened opening capacity; stepped = false }

-- an answer, and then the later lines
goes_after : (front text : List ℕ) (all : Transcript) → Goes text all → Goes (front ++ text) (with_prefix front all)
unfolding with_prefix
goes_after front text all goes = record { more = goes.more; is = ap (λ (l : List ℕ). front ++ l) goes.is ∙ sym (append_assoc front all.text goes.more); same = goes.same }

-- a bad line, and then the later lines
goes_on : (n : ℕ) (h : Recorded) (text : List ℕ) → Goes (bad_line n ++ text) (stopped n h)
unfolding stopped
goes_on n h text = record { more = text; is = refl; same = λ e. absurd (cc) }

-- a bad line has a reason
reason_there : (line : List ℕ) → line_of line ≡ Bad → is_some (reason_of line) ≡ true
unfolding is_bad
reason_there line e = has_reason_if_bad line ∙ ap is_bad e

bad_answered : (told : Option Found) (s : Session) (n : ℕ) (said : Line) → is_some told ≡ true → answer_if told s n said ≡ bad_line n
unfolding answer_if
bad_answered None s n said some = absurd (cc)
bad_answered (Some told) s n said some = refl

goes_on_bad : (told : Option Found) (s : Session) (n : ℕ) (said : Line) (h : Recorded) (text : List ℕ) → is_some told ≡ true → Goes (answer_if told s n said ++ text) (stopped n h)
goes_on_bad told s n said h text some = rw (bad_answered told s n said some) (goes_on n h text)

steps_run : (ls : List (List ℕ)) (n : ℕ) (h : Recorded) → Goes (said_of_each reply_to ls n (stepping h)) (steps_transcript Replies ls n h)
unfolding said_of_each reply_to session_after session_by with_object session_seen answer_if answer_line mistake_in object_mistake steps_transcript finished step_line printed answered_text full_text outcome_text
steps_run [] n h = none where
  none : Goes [] (finished h)
  none = record { more = []; is = refl; same = λ e. refl }
steps_run (line ∷ more) n h = go (line_of line) refl (λ later. steps_run more (n + 1) later) where
  go : (said : Line) → line_of line ≡ said → ((later : Recorded) → Goes (said_of_each reply_to more (n + 1) (stepping later)) (steps_transcript Replies more (n + 1) later))
      → Goes (answer_if (mistake_in None said line) (stepping h) n said ++ said_of_each reply_to more (n + 1) (session_by (stepping h) said)) (step_line Replies said n h (λ later. steps_transcript Replies more (n + 1) later))
  go Blank e later = later h
  go (Command (Ask step)) e later = goes_after (outcome_text h step (answer_to h step)) _ _ (later (joined_by h step (answer_to h step)))
  go (Command (Object given)) e later = goes_on n h _
  go Bad e later = goes_on_bad (reason_of line) (stepping h) n Bad h _ (reason_there line e)

-- the first step
first_step : (line : List ℕ) (more : List (List ℕ)) (n : ℕ) (h : Recorded) (step : Step) → line_of line ≡ Command (Ask step)
    → Goes (outcome_text h step (answer_to h step) ++ said_of_each reply_to more (n + 1) (stepping (joined_by h step (answer_to h step)))) (steps_transcript Replies (line ∷ more) n h)
unfolding steps_transcript step_line printed answered_text full_text outcome_text
first_step line more n h step e = rw e (goes_after (outcome_text h step (answer_to h step)) _ _ (steps_run more (n + 1) (joined_by h step (answer_to h step))))

objects_run : (ls : List (List ℕ)) (n : ℕ) (opening : Opening) (capacity : ℕ) → Goes (said_of_each reply_to ls n (opening_by opening capacity)) (objects_transcript Replies ls n opening capacity)
unfolding said_of_each reply_to session_after session_by with_object session_seen answer_if answer_line mistake_in object_mistake objects_transcript finished object_line opened
objects_run [] n opening capacity = none where
  none : Goes [] (finished (opened opening capacity))
  none = record { more = []; is = refl; same = λ e. refl }
objects_run (line ∷ more) n opening capacity = go (line_of line) refl (λ later. objects_run more (n + 1) later capacity) where
  go : (said : Line) → line_of line ≡ said → ((later : Opening) → Goes (said_of_each reply_to more (n + 1) (opening_by later capacity)) (objects_transcript Replies more (n + 1) later capacity))
      → Goes (answer_if (mistake_in (Some opening) said line) (opening_by opening capacity) n said ++ said_of_each reply_to more (n + 1) (session_by (opening_by opening capacity) said))
      (object_line said opening (λ later. objects_transcript Replies more (n + 1) later capacity) (steps_transcript Replies (line ∷ more) n (opened opening capacity)) (stopped n (opened opening capacity)))
  go Blank e later = later opening
  go (Command (Ask step)) e later = first_step line more n (opened opening capacity) step e
  go (Command (Object given)) e later = choose (exists opening given.0.0) where
    choose : (there : Bool)
        → Goes (answer_if (cond {A = Option Found} there (Some (GivenTwice, second_word (words line))) None) (opening_by opening capacity) n (Command (Object given))
        ++ said_of_each reply_to more (n + 1) (cond there (opening_by opening capacity) (opening_by (opening ++ given ∷ []) capacity)))
        (cond there (stopped n (opened opening capacity)) (objects_transcript Replies more (n + 1) (opening ++ given ∷ []) capacity))
    choose true = goes_on n (opened opening capacity) _
    choose false = later (opening ++ given ∷ [])
  go Bad e later = goes_on_bad (reason_of line) (opening_by opening capacity) n Bad (opened opening capacity) _ (reason_there line e)

pub prints_as_run : (bytes : List ℕ) (capacity : ℕ) → PrintsAsRun bytes capacity
unfolding shell_text transcript new_session
prints_as_run bytes capacity = let goes = objects_run (lines bytes) 1 [] capacity in record { more = goes.more; text = goes.is; same = goes.same }
