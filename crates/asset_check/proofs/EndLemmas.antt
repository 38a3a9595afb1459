-- A check ends as a run does, and what it prints begins with the first bad line.
use Rattle.std.proofs.Common.{◌≡◌, ℕ, ◌+◌, Bool, true, false, cond, List, [], ◌∷◌, ◌++◌, Option, None, Some, refl, sym, ap, ◌∙◌, append_assoc}
use Rattle.std.specs.Prelude.{is_some, codes}
use Rattle.std.specs.Fmt.{decimal}
use Rattle.asset_names.specs.Steps.{Opening}
use Rattle.asset_names.specs.Operations.{exists}
use Rattle.asset_entries.specs.Recorded.{Recorded, opened, answer_to}
use Rattle.asset_grammar.specs.declared.grammar.Command.TheVariants.{Object, Ask}
use Rattle.asset_grammar.specs.declared.grammar.Line.{Line}
use Rattle.asset_grammar.specs.declared.grammar.Line.TheVariants.{Blank, Command, Bad}
use Rattle.asset_grammar.specs.Grammar.{line_of}
use Rattle.asset_grammar.specs.Lines.{lines}
use Rattle.asset_printing.specs.Texts.{line_end}
use Rattle.asset_grammar.specs.Words.{words}
use Rattle.asset_scripts.specs.declared.ends.RunEnd.TheVariants.{Finished, BadLine}
use Rattle.asset_scripts.specs.Renders.{end_at}
use Rattle.asset_scripts.specs.Transcript.{finished, stopped, with_prefix, joined_by, step_line, steps_transcript, object_line, objects_transcript, transcript}
use Rattle.asset_check.specs.Checked.{Seen, check_lines, checked, first_bad, mistake_at, mistake_in, object_mistake, seen_by, seen_object}
use Rattle.asset_reasons.specs.declared.reasons.Reason.TheVariants.{GivenTwice}
use Rattle.asset_check.specs.Laws.{EndsAsRun, IsQuietIfFinished, NamesFirst}
use Rattle.asset_reasons.specs.Mistakes.{Found, is_bad, reason_of, second_word}
use Rattle.asset_check.specs.Sentences.{mistake_line, reason_text}
use Rattle.asset_reasons.proofs.ReasonLemmas.{has_reason_if_bad}
use Rattle.asset_scripts.specs.declared.prints.Prints.{Prints}

-- a bad line has a reason
bad_has_reason : (line : List ℕ) → line_of line ≡ Bad → is_some (reason_of line) ≡ true
unfolding is_bad
bad_has_reason line e = has_reason_if_bad line ∙ ap is_bad e

-- from the first step on
steps_end : (prints : Prints) (ls : List (List ℕ)) (n : ℕ) (h : Recorded) → (steps_transcript prints ls n h).end ≡ end_at (first_bad ls n None)
unfolding steps_transcript finished step_line with_prefix stopped first_bad end_at mistake_in seen_by object_mistake seen_object
steps_end prints [] n h = ended where
  ended : (finished h).end ≡ end_at None
  ended = refl
steps_end prints (line ∷ more) n h = go (line_of line) refl (λ later. steps_end prints more (n + 1) later) where
  go : (said : Line) → line_of line ≡ said → ((later : Recorded) → (steps_transcript prints more (n + 1) later).end ≡ end_at (first_bad more (n + 1) None))
      → (step_line prints said n h (λ later. steps_transcript prints more (n + 1) later)).end
      ≡ end_at (cond (is_some (mistake_in None said line)) (Some n) (first_bad more (n + 1) (seen_by None said)))
  go Blank e later = later h
  go (Command (Ask step)) e later = later (joined_by h step (answer_to h step))
  go (Command (Object given)) e later = refl
  go Bad e later = rw (bad_has_reason line e) refl

-- before it
objects_end : (prints : Prints) (ls : List (List ℕ)) (n : ℕ) (opening : Opening) (capacity : ℕ) → (objects_transcript prints ls n opening capacity).end ≡ end_at (first_bad ls n (Some opening))
unfolding objects_transcript finished object_line stopped first_bad mistake_in seen_by object_mistake seen_object end_at
objects_end prints [] n opening capacity = ended where
  ended : (finished (opened opening capacity)).end ≡ end_at None
  ended = refl
objects_end prints (line ∷ more) n opening capacity = go (line_of line) refl (λ later. objects_end prints more (n + 1) later capacity) where
  go : (said : Line) → line_of line ≡ said → ((later : Opening) → (objects_transcript prints more (n + 1) later capacity).end ≡ end_at (first_bad more (n + 1) (Some later)))
      → (object_line said opening (λ later. objects_transcript prints more (n + 1) later capacity) (steps_transcript prints (line ∷ more) n (opened opening capacity)) (stopped n (opened opening capacity))).end
      ≡ end_at (cond (is_some (mistake_in (Some opening) said line)) (Some n) (first_bad more (n + 1) (seen_by (Some opening) said)))
  go Blank e later = later opening
  go (Command (Ask step)) e later = steps_end prints (line ∷ more) n (opened opening capacity) ∙ stepped where
    stepped : end_at (first_bad (line ∷ more) n None) ≡ end_at (first_bad more (n + 1) None)
    stepped = rw e refl
  go (Command (Object given)) e later = choose (exists opening given.0.0) where
    choose : (there : Bool) → (cond there (stopped n (opened opening capacity)) (objects_transcript prints more (n + 1) (opening ++ given ∷ []) capacity)).end
        ≡ end_at (cond (is_some {T = Found} (cond there (Some (GivenTwice, second_word (words line))) None)) (Some n) (first_bad more (n + 1) (Some (cond there opening (opening ++ given ∷ [])))))
    choose true = refl
    choose false = later (opening ++ given ∷ [])
  go Bad e later = rw (bad_has_reason line e) refl

pub ends_as_run : (bytes : List ℕ) (prints : Prints) (capacity : ℕ) → EndsAsRun bytes prints capacity
unfolding checked transcript
ends_as_run bytes prints capacity = sym (objects_end prints (lines bytes) 1 [] capacity)

-- nothing is printed if no line is bad
quiet_lines : (ls : List (List ℕ)) (n : ℕ) (seen : Seen) → first_bad ls n seen ≡ None → check_lines ls n seen ≡ []
unfolding first_bad check_lines mistake_line
quiet_lines [] n seen none = refl
quiet_lines (line ∷ more) n seen none = go (mistake_at seen line) none (quiet_lines more (n + 1) (seen_by seen (line_of line))) where
  go : (told : Option Found) → cond (is_some told) (Some n) (first_bad more (n + 1) (seen_by seen (line_of line))) ≡ None
      → (first_bad more (n + 1) (seen_by seen (line_of line)) ≡ None → check_lines more (n + 1) (seen_by seen (line_of line)) ≡ [])
      → mistake_line n told ++ check_lines more (n + 1) (seen_by seen (line_of line)) ≡ []
  go None none later = later none
  go (Some told) none later = absurd (cc)

finished_is_none : (bad : Option ℕ) → end_at bad ≡ Finished → bad ≡ None
unfolding end_at
finished_is_none None e = refl
finished_is_none (Some n) e = absurd (cc)

pub quiet_if_finished : (bytes : List ℕ) → IsQuietIfFinished bytes
unfolding checked
quiet_if_finished bytes = λ e. quiet_lines (lines bytes) 1 (Some []) (finished_is_none _ e)

-- what a text begins with
abbrev Begins : List ℕ → List ℕ → Type 0
Begins text front = (rest : List ℕ) × (text ≡ front ++ rest)

regroup : (a b c d e f : List ℕ) → (a ++ b ++ c ++ d ++ e) ++ f ≡ (a ++ b ++ c) ++ ((d ++ e) ++ f)
regroup a b c d e f = simp append_assoc

-- a line that names another one begins with its number
named : (n : ℕ) (told : Found) (later : List ℕ) → mistake_line n (Some told) ++ later ≡ (codes "line " ++ decimal n ++ codes ": ") ++ ((reason_text told ++ line_end) ++ later)
unfolding mistake_line
named n told later = regroup (codes "line ") (decimal n) (codes ": ") (reason_text told) line_end later

-- the first line that is printed names the first bad line
first_lines : (ls : List (List ℕ)) (n m : ℕ) (seen : Seen) → first_bad ls n seen ≡ Some m → Begins (check_lines ls n seen) (codes "line " ++ decimal m ++ codes ": ")
unfolding first_bad check_lines mistake_line
first_lines [] n m seen found = absurd (cc)
first_lines (line ∷ more) n m seen found = go (mistake_at seen line) found (first_lines more (n + 1) m (seen_by seen (line_of line))) where
  go : (told : Option Found) → cond (is_some told) (Some n) (first_bad more (n + 1) (seen_by seen (line_of line))) ≡ Some m
      → (first_bad more (n + 1) (seen_by seen (line_of line)) ≡ Some m → Begins (check_lines more (n + 1) (seen_by seen (line_of line))) (codes "line " ++ decimal m ++ codes ": "))
      → Begins (mistake_line n told ++ check_lines more (n + 1) (seen_by seen (line_of line))) (codes "line " ++ decimal m ++ codes ": ")
  go None found later = later found
  go (Some told) found later =
      let same : n ≡ m = cc in
      ((reason_text told ++ line_end) ++ check_lines more (n + 1) (seen_by seen (line_of line)), rw (← same) (named n told (check_lines more (n + 1) (seen_by seen (line_of line)))))

bad_is_some : (bad : Option ℕ) (n : ℕ) → end_at bad ≡ BadLine n → bad ≡ Some n
unfolding end_at
bad_is_some None n e = absurd (cc)
bad_is_some (Some m) n e = ap Some cc

pub names_first : (bytes : List ℕ) (n : ℕ) → NamesFirst bytes n
unfolding checked
names_first bytes n = λ e. first_lines (lines bytes) 1 n (Some []) (bad_is_some _ n e)
