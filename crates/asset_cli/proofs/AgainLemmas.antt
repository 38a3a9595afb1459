-- A printed history, run again, prints its replies.
use Rattle.std.proofs.Common.{◌≡◌, ℕ, ◌+◌, ◌<◌, Bool, true, false, cond, eqb, ◌||◌, List, [], ◌∷◌, ◌++◌, length, refl, sym, ap, ◌∙◌, append_assoc, arith}
use Rattle.std.specs.Prelude.{ℤ, ◌==◌}
use Rattle.std.specs.List.{count_by, list_any}
use Rattle.std.proofs.lemmas.Bool.{eq-eqb, leb-false, false≢true}
use Rattle.std.proofs.lemmas.List.{append-nil, map-append}
use Rattle.std.proofs.lemmas.List.Sums.{sum_by-append, sum_by-cons}
use Rattle.asset_names.specs.declared.names.Ob.{Ob}
use Rattle.asset_names.specs.declared.steps.Step.{Step}
use Rattle.asset_names.specs.declared.replies.Outcome.TheVariants.{Answer}
use Rattle.asset_names.specs.Steps.{Opening, Entry, objects_of}
use Rattle.asset_names.specs.Answers.{IsLegal}
use Rattle.asset_names.specs.Operations.{exists}
use Rattle.asset_names.specs.Sets.{twice, HasNoDouble}
use Rattle.asset_entries.specs.Recorded.{Recorded, opened, answer_to, after, with_entry, has_room}
use Rattle.asset_grammar.specs.declared.grammar.Command.TheVariants.{Ask}
use Rattle.asset_grammar.specs.declared.grammar.Line.TheVariants.{Command}
use Rattle.asset_grammar.specs.Grammar.{line_of}
use Rattle.asset_grammar.specs.Lines.{lines}
use Rattle.asset_printing.specs.Texts.{outcome_line, reply_line}
use Rattle.asset_grammar.proofs.LineLemmas.{lines_cut}
use Rattle.asset_printing.specs.Printed.{object_text, step_text}
use Rattle.asset_printing.proofs.PlainLemmas.{object_one_line, step_one_line}
use Rattle.asset_printing.proofs.SaidLemmas.{object_said, step_said}
use Rattle.asset_reports.specs.Reports.{opening_line, opening_text, steps_text, history_text}
use Rattle.asset_scripts.specs.Transcript.{Transcript, finished, with_prefix, answered_text, printed, joined_by, step_line, steps_transcript, object_line, objects_transcript, transcript}
use Rattle.asset_scripts.proofs.OpeningLemmas.{exists_listed}
use Rattle.asset_scripts.proofs.PreambleLemmas.{object_taken}
use Rattle.asset_scripts.specs.declared.prints.Prints.TheVariants.{Replies}
use Rattle.asset_cli.specs.Again.{FitThroughout, RunsAgain, replayed, replies_text}
use Rattle.asset_cli.proofs.WritableLemmas.{EntriesWritable, OpeningWritable}

-- an object that is listed is counted
counted_if_listed : (opening : Opening) (x : ℕ) → list_any (λ (pair : Ob × ℤ). eqb pair.0.0 x) opening ≡ true → 0 < count_by (λ m. m == x) (objects_of opening)
counted_if_listed [] x listed = absurd (false≢true listed)
counted_if_listed (pair ∷ opening) x listed =
    go (eqb pair.0.0 x) refl listed (sum_by-cons (λ m. cond (m == x) 1 0) pair.0.0 (objects_of opening)) (counted_if_listed opening x) where
      go : (here : Bool) → eqb pair.0.0 x ≡ here → (here || list_any (λ (pair : Ob × ℤ). eqb pair.0.0 x) opening) ≡ true
          → count_by (λ m. m == x) (objects_of (pair ∷ opening)) ≡ cond (pair.0.0 == x) 1 0 + count_by (λ m. m == x) (objects_of opening)
          → (list_any (λ (pair : Ob × ℤ). eqb pair.0.0 x) opening ≡ true → 0 < count_by (λ m. m == x) (objects_of opening)) → 0 < count_by (λ m. m == x) (objects_of (pair ∷ opening))
      go true e listed more later = let counted = rw e at more in omega (arith, counted)
      go false e listed more later = let counted = rw e at more in omega (arith, counted, later listed)

-- an object that comes later did not exist before
new_object : (before after : Opening) (given : Ob × ℤ) → HasNoDouble (objects_of (before ++ given ∷ after)) → exists before given.0.0 ≡ false
unfolding HasNoDouble twice
new_object before after given none = go (exists before given.0.0) refl where
  go : (b : Bool) → exists before given.0.0 ≡ b → b ≡ false
  go false e = refl
  go true e =
      let x = given.0.0 in
      let early = counted_if_listed before x (sym (exists_listed before x) ∙ e) in
      let joined : objects_of (before ++ given ∷ after) ≡ objects_of before ++ x ∷ objects_of after = rw map-append refl in
      let split = sum_by-append (λ m. cond (m == x) 1 0) (objects_of before) (x ∷ objects_of after) in
      let more = rw (eq-eqb x x refl) at (sum_by-cons (λ m. cond (m == x) 1 0) x (objects_of after)) in
      let few = leb-false 2 (count_by (λ m. m == x) (objects_of before ++ x ∷ objects_of after)) (rw joined at (none x)) in
      absurd (omega (arith, early, split, more, few))

-- the object lines of an opening add its objects
objects_again : (todo done : Opening) (rest : List ℕ) (n capacity : ℕ) → OpeningWritable todo → HasNoDouble (objects_of (done ++ todo))
    → objects_transcript Replies (lines (opening_text todo ++ rest)) n done capacity ≡ objects_transcript Replies (lines rest) (n + length todo) (done ++ todo) capacity
unfolding opening_text opening_line
objects_again [] done rest n capacity writable none =
    let same : n + 0 ≡ n = omega arith in
    rw (same, append-nil done) refl
objects_again (given ∷ todo) done rest n capacity writable none =
    let line = object_text given.0 given.1 in
    let text : opening_text (given ∷ todo) ++ rest ≡ line ++ 10 ∷ (opening_text todo ++ rest) =
    append_assoc (line ++ 10 ∷ []) (opening_text todo) rest ∙ append_assoc line (10 ∷ []) (opening_text todo ++ rest) in
    let cut = ap lines text ∙ lines_cut line (opening_text todo ++ rest) (object_one_line given writable.0) in
    let took = object_taken line done given (object_said given writable.0) (new_object done todo given none) in
    let same : (done ++ given ∷ []) ++ todo ≡ done ++ given ∷ todo = append_assoc done (given ∷ []) todo in
    let later = objects_again todo (done ++ given ∷ []) rest (n + 1) capacity writable.1 (rw same none) in
    let count : (n + 1) + length todo ≡ n + length (given ∷ todo) = omega arith in
    ap (λ (ls : List (List ℕ)). objects_transcript Replies ls n done capacity) cut ∙ took Replies (lines (opening_text todo ++ rest)) n capacity ∙ later ∙ rw (same, count) refl

-- the first line, if there is one, is that of a step
abbrev StartsWithStep : List (List ℕ) → Type 0
StartsWithStep [] = Unit {0}
StartsWithStep (line ∷ more) = (step : Step) × (line_of line ≡ Command (Ask step))

-- the line of a step after the others
last_line : (older : List Entry) (entry : Entry) (rest : List ℕ) → steps_text (entry ∷ older) ++ rest ≡ steps_text older ++ (step_text entry.0 ++ 10 ∷ rest)
unfolding steps_text
last_line older entry rest =
    append_assoc (steps_text older) (step_text entry.0 ++ 10 ∷ []) rest ∙ ap (λ (l : List ℕ). steps_text older ++ l) (append_assoc (step_text entry.0) (10 ∷ []) rest)

starts : (entries : List Entry) (rest : List ℕ) → EntriesWritable entries → StartsWithStep (lines rest) → StartsWithStep (lines (steps_text entries ++ rest))
unfolding steps_text
starts [] rest writable h = h
starts (entry ∷ older) rest writable h =
    let cut = lines_cut (step_text entry.0) rest (step_one_line entry.0 writable.0) in
    let first : StartsWithStep (lines (step_text entry.0 ++ 10 ∷ rest)) = rw cut (entry.0, step_said entry.0 writable.0) in
    rw (last_line older entry rest) (starts older (step_text entry.0 ++ 10 ∷ rest) writable.1 first)

-- the steps begin at the first line of a step
steps_begin : (ls : List (List ℕ)) (n : ℕ) (opening : Opening) (capacity : ℕ) → StartsWithStep ls → objects_transcript Replies ls n opening capacity ≡ steps_transcript Replies ls n (opened opening capacity)
unfolding objects_transcript steps_transcript object_line
steps_begin [] n opening capacity h = refl
steps_begin (line ∷ more) n opening capacity h = rw (h.1) refl

-- a step that is answered again
asked_again : (line : List ℕ) (more : List (List ℕ)) (n : ℕ) (h : Recorded) (entry : Entry) → line_of line ≡ Command (Ask entry.0) → answer_to h entry.0 ≡ Answer entry.1 → has_room h entry.0 (Answer entry.1) ≡ true
    → steps_transcript Replies (line ∷ more) n h ≡ with_prefix (reply_line entry.1) (steps_transcript Replies more (n + 1) (with_entry h entry.0 entry.1))
unfolding steps_transcript step_line printed answered_text joined_by after outcome_line
asked_again line more n h entry said answered room = rw (said, answered, room) refl

-- two texts before a transcript
prefix_twice : (first second : List ℕ) (later : Transcript) → with_prefix first (with_prefix second later) ≡ with_prefix (first ++ second) later
unfolding with_prefix
prefix_twice first second later = ap (λ (text : List ℕ). record later { text = text }) (sym (append_assoc first second later.text))

module _ (opening : Opening) (capacity : ℕ) where
  -- the step lines of a history print the replies that it has
  steps_again : (entries : List Entry) (rest : List ℕ) (n : ℕ) → IsLegal opening entries → EntriesWritable entries → FitThroughout entries capacity
      → steps_transcript Replies (lines (steps_text entries ++ rest)) n (opened opening capacity) ≡ with_prefix (replies_text entries) (steps_transcript Replies (lines rest) (n + length entries) (record { opening = opening; entries = entries; capacity = capacity }))
  unfolding steps_text IsLegal FitThroughout replies_text with_prefix opened answer_to has_room with_entry
  steps_again [] rest n legal writable fit =
      let same : n + 0 ≡ n = omega arith in
      rw same refl
  steps_again (entry ∷ older) rest n legal writable fit =
      let line = step_text entry.0 in
      let h : Recorded = record { opening = opening; entries = older; capacity = capacity } in
      let cut = lines_cut line rest (step_one_line entry.0 writable.0) in
      let before = steps_again older (line ++ 10 ∷ rest) n legal.1 writable.1 fit.1 in
      let asked = asked_again line (lines rest) (n + length older) h entry (step_said entry.0 writable.0) legal.0 fit.0 in
      let count : (n + length older) + 1 ≡ n + length (entry ∷ older) = omega arith in
      ap (λ (text : List ℕ). steps_transcript Replies (lines text) n (opened opening capacity)) (last_line older entry rest)
      ∙ before
      ∙ ap (with_prefix (replies_text older)) (ap (λ (ls : List (List ℕ)). steps_transcript Replies ls (n + length older) h) cut ∙ asked)
      ∙ prefix_twice (replies_text older) (reply_line entry.1) _
      ∙ ap (λ (m : ℕ). with_prefix (replies_text (entry ∷ older)) (steps_transcript Replies (lines rest) m (record { opening = opening; entries = entry ∷ older; capacity = capacity }))) count

-- all of it
pub history_again : (opening : Opening) (entries : List Entry) → OpeningWritable opening → HasNoDouble (objects_of opening) → EntriesWritable entries → IsLegal opening entries → RunsAgain (history_text opening entries) opening entries
unfolding RunsAgain history_text transcript lines steps_transcript finished with_prefix
history_again opening entries written different writable legal = λ capacity fit.
    let objects = objects_again opening [] (steps_text entries) 1 capacity written different in
    let ends : steps_text entries ++ [] ≡ steps_text entries = append-nil (steps_text entries) in
    let first : StartsWithStep (lines (steps_text entries)) = rw ends at (starts entries [] writable tt) in
    let begun = steps_begin (lines (steps_text entries)) (1 + length opening) opening capacity first in
    let steps = rw ends at (steps_again opening capacity entries [] (1 + length opening) legal writable fit) in
    objects ∙ begun ∙ steps ∙ ap (λ (text : List ℕ). record (replayed opening entries capacity) { text = text }) (append-nil (replies_text entries))
