-- One more entry of a walk, and what it finds there.
use Rattle.std.proofs.Common.{◌≡◌, ℕ, ◌+◌, ◌<◌, ◌≤◌, ℤ, suc, zero, Bool, true, cond, List, [], ◌∷◌, ◌++◌, length, take, drop, reverse, refl, sym, ap, subst, ◌∙◌, arith, Some, None, inl, inr}
use Rattle.std.specs.Prelude.{Option, option_map, slice_get, ◌^◌}
use Rattle.std.proofs.lemmas.Bool.{eq-eqb, ne_eqb}
use Rattle.std.proofs.lemmas.List.{length-append, length-reverse, length-take-le}
use Rattle.std.proofs.lemmas.Option.{slice_get_cases, slice_get_within}
use Rattle.std.proofs.Math.Nat.{eq-or-lt_of_le}
use Rattle.asset_names.specs.declared.names.Txn.{Txn}
use Rattle.asset_names.specs.declared.names.Ob.{Ob}
use Rattle.asset_names.specs.declared.steps.Step.{Step}
use Rattle.asset_names.specs.declared.steps.Step.TheVariants.{Initiate, Begin, Read, Write, Add, Complete, Permit, PermitAny, Delegate, Depend, Commit, Abort, WaitFor}
use Rattle.asset_names.specs.declared.replies.Reply.{Reply}
use Rattle.asset_names.specs.declared.replies.Reply.TheVariants as Reply'
use Rattle.asset_names.specs.Steps.{Opening, Entry, takes_effect, applied, objects_of}
use Rattle.asset_names.specs.Operations.{value_if_any}
use Rattle.asset_names.specs.Orderly.{IsOrderly}
use Rattle.asset_names.specs.Sources.{source, added, IsAlone, IsOwnOrCommitted, AreOwnOrCommitted}
use Rattle.asset_names.specs.Answers.{IsLegal}
use Rattle.asset_names.proofs.LegalLemmas.{legal_orderly, effect_unrefused}
use Rattle.asset_laws.specs.Renumbered.{source_number, writing, reading, renumbered, zeroed}
use Rattle.asset_laws.proofs.GroupLemmas.{legal_rest}
use Rattle.asset_laws.proofs.RenumberLemmas.{value_is_source, renumbered_legal, effect_same}
use Rattle.asset_laws.proofs.SourceLemmas.{alone_source}
use Rattle.asset_entries.specs.Recorded.{Recorded}
use Rattle.asset_entries.proofs.EntryLemmas.{next_entry, between}
use Rattle.asset_ends.specs.Shows.{Shows}
use Rattle.asset_ends.specs.Standing.{Standing, values_of}
use Rattle.asset_steps.specs.Ready.{IsReady}
use Rattle.asset_steps.proofs.AnswerLemmas.{read_unrefused}
use Rattle.asset_steps.proofs.ReadyLemmas.{ready}
use Rattle.asset_sources.specs.declared.sourced.Source.{Source}
use Rattle.asset_sources.specs.Sourced.{source_from, source_of, sources_of, source_at, read_with, read_of}
use Rattle.asset_sources.specs.Walked.{first_entries, ShowsFirstNumbered}

-- ---- entries in order

-- the entry at i is legal after the older ones
pub legal_here : (opening : Opening) (all : List Entry) (i : ℕ) (entry : Entry) → slice_get (reverse all) i ≡ Some entry → IsLegal opening all → IsLegal opening (entry ∷ reverse (take i (reverse all)))
legal_here opening all i entry at legal =
    legal_rest opening (reverse (drop (i + 1) (reverse all))) (entry ∷ reverse (take i (reverse all))) (subst (IsLegal opening) (sym (between all i entry at)) legal)

-- how many older entries there are
pub older_length : (all : List Entry) (i : ℕ) (entry : Entry) → slice_get (reverse all) i ≡ Some entry → length (reverse (take i (reverse all))) ≡ i
older_length all i entry at =
    let within = slice_get_within (reverse all) i entry at in
    length-reverse (take i (reverse all)) ∙ length-take-le i (reverse all) (omega (arith, within))

-- an index below their number has an entry
pub entry_there : (all : List Entry) (i : ℕ) → i < length all → (entry : Entry) × (slice_get (reverse all) i ≡ Some entry)
entry_there all i below =
    elim (slice_get_cases (reverse all) i).1 [
      | inl here ↦ (here.0, here.2)
      | inr past ↦ absurd (omega (arith, past.0, below, length-reverse all))
    ]

-- ---- steps with numbers

-- a step with its number takes effect as the step does
pub effect_writing : (n : ℕ) (step : Step) (reply : Reply) → takes_effect (writing n step) reply ≡ takes_effect step reply
unfolding writing takes_effect
effect_writing n (Initiate t parent) reply = refl
effect_writing n (Begin t) reply = refl
effect_writing n (Read t x) reply = refl
effect_writing n (Write t x v) Reply'.Done = refl
effect_writing n (Add t x v) Reply'.Done = refl
effect_writing n (Write t x v) (Reply'.Value w) = refl
effect_writing n (Add t x v) (Reply'.Value w) = refl
effect_writing n (Write t x v) Reply'.Committed = refl
effect_writing n (Add t x v) Reply'.Committed = refl
effect_writing n (Write t x v) Reply'.Aborted = refl
effect_writing n (Add t x v) Reply'.Aborted = refl
effect_writing n (Write t x v) (Reply'.Refused refusal) = refl
effect_writing n (Add t x v) (Reply'.Refused refusal) = refl
effect_writing n (Complete t) reply = refl
effect_writing n (Permit giver taker obs ops) reply = refl
effect_writing n (PermitAny giver obs ops) reply = refl
effect_writing n (Delegate giver taker obs) reply = refl
effect_writing n (Depend kind a b) reply = refl
effect_writing n (Commit t) reply = refl
effect_writing n (Abort t) reply = refl
effect_writing n (WaitFor t) reply = refl

-- ---- one more entry

-- a legal entry finds tables ready for its step with its number
pub numbered_ready : (opening : Opening) (older : List Entry) (tables : Standing) (step : Step) (reply : Reply) (n : ℕ) → length older ≡ n → length older + 1 < 2 ^ 63 → Shows (zeroed opening) (applied (renumbered older)) (values_of tables)
    → IsLegal opening ((step, reply) ∷ older) → takes_effect step reply ≡ true → IsReady (writing n step) tables
unfolding IsLegal renumbered
numbered_ready opening older tables step reply n is small stand legal effect =
    subst (λ (m : ℕ). IsReady (writing m step) tables) is
    (ready (zeroed opening) (applied (renumbered older)) tables (writing (length older) step) (reading older step reply) stand
    (renumbered_legal opening ((step, reply) ∷ older) (omega (arith, small)) legal).0 (effect_same (length older) older step reply ∙ effect))

-- the steps that took effect, with one more
applied_numbered : (older : List Entry) (step : Step) (reply : Reply) → applied ((writing (length older) step, reply) ∷ renumbered older) ≡ applied (renumbered ((step, reply) ∷ older))
unfolding applied renumbered
applied_numbered older step reply =
    ap (λ (effect : Bool). cond effect (writing (length older) step ∷ applied (renumbered older)) (applied (renumbered older)))
    (effect_writing (length older) step reply ∙ sym (effect_same (length older) older step reply))

-- the steps of a renumbered history are orderly
orderly_numbered : (opening : Opening) (entries : List Entry) → length entries < 2 ^ 63 → IsLegal opening entries → IsOrderly (applied (renumbered entries))
orderly_numbered opening entries small legal = legal_orderly (zeroed opening) (renumbered entries) (renumbered_legal opening entries small legal)

-- there are fewer older entries than all
pub few_older : (all : List Entry) (i : ℕ) (entry : Entry) → length all < 2 ^ 63 → slice_get (reverse all) i ≡ Some entry → length (reverse (take i (reverse all))) + 1 < 2 ^ 63
few_older all i entry small at =
    let within = slice_get_within (reverse all) i entry at in
    omega (arith, small, within, length-reverse all, older_length all i entry at)

-- the entry at i finds tables ready that show the older ones
pub entry_ready : (history : Recorded) (i : ℕ) (tables : Standing) (entry : Entry) → length history.entries < 2 ^ 63 → slice_get (reverse history.entries) i ≡ Some entry → IsLegal history.opening history.entries → ShowsFirstNumbered history i tables
    → takes_effect entry.0 entry.1 ≡ true → IsReady (writing i entry.0) tables
entry_ready history i tables entry small at legal stand effect =
    numbered_ready history.opening (first_entries history i) tables entry.0 entry.1 i (older_length history.entries i entry at) (few_older history.entries i entry small at) stand (legal_here history.opening history.entries i entry at legal) effect

-- and once it is applied, they show it too
pub entry_passed : (history : Recorded) (i : ℕ) (before after : Standing) (entry : Entry) → length history.entries < 2 ^ 63 → slice_get (reverse history.entries) i ≡ Some entry → IsLegal history.opening history.entries → ShowsFirstNumbered history i before
    → ((opening : Opening) (older : List Entry) → Shows opening (applied older) (values_of before) → IsOrderly (applied older) → Shows opening (applied ((writing i entry.0, entry.1) ∷ older)) (values_of after))
    → ShowsFirstNumbered history (i + 1) after
unfolding IsLegal
entry_passed history i before after entry small at legal stand shows =
    let older = first_entries history i in
    let here = legal_here history.opening history.entries i entry at legal in
    let shown = shows (zeroed history.opening) (renumbered older) stand (orderly_numbered history.opening older (let few = few_older history.entries i entry small at in omega (arith, few)) here.1) in
    subst Shown (sym (next_entry (reverse history.entries) i entry at))
    (subst (λ steps. Shows (zeroed history.opening) steps (values_of after)) (applied_numbered older entry.0 entry.1)
    (subst (λ (n : ℕ). Shows (zeroed history.opening) (applied ((writing n entry.0, entry.1) ∷ renumbered older)) (values_of after)) (sym (older_length history.entries i entry at)) shown)) where
      Shown : List Entry → Type 0
      Shown entries = Shows (zeroed history.opening) (applied (renumbered entries)) (values_of after)

-- ---- what is found

-- a step that is no read has no source
pub no_read : (older : List Entry) (step : Step) (reply : Reply) → ((t : Txn) (x : Ob) → step ≡ Read t x → ⊥) → source_of older step reply ≡ None
unfolding source_of
no_read older (Initiate t parent) reply other = refl
no_read older (Begin t) reply other = refl
no_read older (Read t x) reply other = absurd (other t x refl)
no_read older (Write t x v) reply other = refl
no_read older (Add t x v) reply other = refl
no_read older (Complete t) reply other = refl
no_read older (Permit giver taker obs ops) reply other = refl
no_read older (PermitAny giver obs ops) reply other = refl
no_read older (Delegate giver taker obs) reply other = refl
no_read older (Depend kind a b) reply other = refl
no_read older (Commit t) reply other = refl
no_read older (Abort t) reply other = refl
no_read older (WaitFor t) reply other = refl

-- nor has one that was not answered by a value
pub no_value : (older : List Entry) (step : Step) (reply : Reply) → ((v : ℤ) → reply ≡ Reply'.Value v → ⊥) → source_of older step reply ≡ None
unfolding source_of
no_value older (Initiate t parent) reply other = refl
no_value older (Begin t) reply other = refl
no_value older (Read t x) Reply'.Done other = refl
no_value older (Read t x) (Reply'.Value v) other = absurd (other v refl)
no_value older (Read t x) Reply'.Committed other = refl
no_value older (Read t x) Reply'.Aborted other = refl
no_value older (Read t x) (Reply'.Refused refusal) other = refl
no_value older (Write t x v) reply other = refl
no_value older (Add t x v) reply other = refl
no_value older (Complete t) reply other = refl
no_value older (Permit giver taker obs ops) reply other = refl
no_value older (PermitAny giver obs ops) reply other = refl
no_value older (Delegate giver taker obs) reply other = refl
no_value older (Depend kind a b) reply other = refl
no_value older (Commit t) reply other = refl
no_value older (Abort t) reply other = refl
no_value older (WaitFor t) reply other = refl

-- without a source nothing is told
no_source : (step : Step) (reply : Reply) → read_of step reply None ≡ None
unfolding read_of
no_source step Reply'.Done = refl
no_source step (Reply'.Value v) = refl
no_source step Reply'.Committed = refl
no_source step Reply'.Aborted = refl
no_source step (Reply'.Refused refusal) = refl

-- what is told of a step with its number is what is told of the step
pub told_writing : (n : ℕ) (older : List Entry) (step : Step) (reply : Reply) → read_of (writing n step) reply (source_of older step reply) ≡ read_of step reply (source_of older step reply)
unfolding source_of writing
told_writing n older (Read t x) reply = refl
told_writing n older (Write t x v) reply = no_source _ reply ∙ sym (no_source _ reply)
told_writing n older (Add t x v) reply = no_source _ reply ∙ sym (no_source _ reply)
told_writing n older (Initiate t parent) reply = refl
told_writing n older (Begin t) reply = refl
told_writing n older (Complete t) reply = refl
told_writing n older (Permit giver taker obs ops) reply = refl
told_writing n older (PermitAny giver obs ops) reply = refl
told_writing n older (Delegate giver taker obs) reply = refl
told_writing n older (Depend kind a b) reply = refl
told_writing n older (Commit t) reply = refl
told_writing n older (Abort t) reply = refl
told_writing n older (WaitFor t) reply = refl

-- the source of what is told is the source
told_source : (older : List Entry) (step : Step) (reply : Reply) → option_map (λ (read : Step × ℤ × Source). read.2) (read_of step reply (source_of older step reply)) ≡ source_of older step reply
unfolding source_of read_of
told_source older (Read t x) Reply'.Done = refl
told_source older (Read t x) (Reply'.Value v) = refl
told_source older (Read t x) Reply'.Committed = refl
told_source older (Read t x) Reply'.Aborted = refl
told_source older (Read t x) (Reply'.Refused refusal) = refl
told_source older (Initiate t parent) reply = rw (no_source (Initiate t parent) reply) refl
told_source older (Begin t) reply = rw (no_source (Begin t) reply) refl
told_source older (Write t x v) reply = rw (no_source (Write t x v) reply) refl
told_source older (Add t x v) reply = rw (no_source (Add t x v) reply) refl
told_source older (Complete t) reply = rw (no_source (Complete t) reply) refl
told_source older (Permit giver taker obs ops) reply = rw (no_source (Permit giver taker obs ops) reply) refl
told_source older (PermitAny giver obs ops) reply = rw (no_source (PermitAny giver obs ops) reply) refl
told_source older (Delegate giver taker obs) reply = rw (no_source (Delegate giver taker obs) reply) refl
told_source older (Depend kind a b) reply = rw (no_source (Depend kind a b) reply) refl
told_source older (Commit t) reply = rw (no_source (Commit t) reply) refl
told_source older (Abort t) reply = rw (no_source (Abort t) reply) refl
told_source older (WaitFor t) reply = rw (no_source (WaitFor t) reply) refl

-- the source beside a value is that of what is told
pub source_told : (older : List Entry) (step asked : Step) (reply : Reply) (found : Option (ℤ × Source)) → read_with asked found ≡ read_of step reply (source_of older step reply)
    → option_map (λ (one : ℤ × Source). one.1) found ≡ source_of older step reply
unfolding read_with
source_told older step asked reply None told = ap (option_map (λ (read : Step × ℤ × Source). read.2)) told ∙ told_source older step reply
source_told older step asked reply (Some found) told = ap (option_map (λ (read : Step × ℤ × Source). read.2)) told ∙ told_source older step reply

-- an object that is read has the number of its source as its value
pub numbered_value : (opening : Opening) (older : List Entry) (t : Txn) (x : Ob) (v : ℤ) → length older + 1 < 2 ^ 63 → IsLegal opening ((Read t x, Reply'.Value v) ∷ older)
    → value_if_any (zeroed opening) (applied (renumbered older)) x.0 ≡ Some (source_number (source older x.0))
unfolding IsLegal renumbered writing reading value_if_any takes_effect
numbered_value opening older t x v small legal =
    let answered = (renumbered_legal opening ((Read t x, Reply'.Value v) ∷ older) (omega (arith, small)) legal).0 in
    let here = read_unrefused (zeroed opening) (applied (renumbered older)) t x (effect_unrefused (zeroed opening) (applied (renumbered older)) (Read t x) (Reply'.Value (source_number (source older x.0))) answered refl) in
    rw (here.1, value_is_source opening older (omega (arith, small)) x.0) refl

-- the objects stay when their values are taken away
pub objects_zeroed : (opening : Opening) → objects_of (zeroed opening) ≡ objects_of opening
unfolding zeroed
objects_zeroed [] = refl
objects_zeroed (given ∷ opening) = ap (λ (names : List ℕ). given.0.0 ∷ names) (objects_zeroed opening)

-- the source of the entry between the newer and the older ones
source_between : (newer older : List Entry) (entry : Entry) → source_at (newer ++ entry ∷ older) (length older) ≡ source_of older entry.0 entry.1
unfolding source_at
source_between [] older entry = rw (eq-eqb (length older) (length older) refl) refl
source_between (new ∷ newer) older entry =
    rw (ne_eqb (length older) (length (newer ++ entry ∷ older)) (λ same. omega (arith, same, length-append newer (entry ∷ older)))) (source_between newer older entry)

-- the source of the entry at i
pub source_found : (all : List Entry) (i : ℕ) (entry : Entry) → slice_get (reverse all) i ≡ Some entry → source_at all i ≡ source_of (reverse (take i (reverse all))) entry.0 entry.1
source_found all i entry at =
    let older = reverse (take i (reverse all)) in
    ap (λ (l : List Entry). source_at l i) (sym (between all i entry at))
    ∙ ap (source_at (reverse (drop (i + 1) (reverse all)) ++ entry ∷ older)) (sym (older_length all i entry at))
    ∙ source_between (reverse (drop (i + 1) (reverse all))) older entry

-- there is no source past the end
pub source_past : (entries : List Entry) (i : ℕ) → length entries ≤ i → source_at entries i ≡ None
unfolding source_at
source_past [] i past = refl
source_past (entry ∷ older) i past = rw (ne_eqb i (length older) (λ same. omega (arith, same, past))) (source_past older i (omega (arith, past)))

-- the sources with that of the next entry
pub sources_next : (entries : List Entry) (i : ℕ) (entry : Entry) → slice_get entries i ≡ Some entry
    → sources_of (reverse (take (i + 1) entries)) ≡ sources_of (reverse (take i entries)) ++ source_of (reverse (take i entries)) entry.0 entry.1 ∷ []
unfolding sources_of
sources_next entries i entry at = rw (next_entry entries i entry at) refl

-- the source of a read of who is alone in its group
pub alone_found : (opening : Opening) (all newer older : List Entry) (t : Txn) (x : Ob) (v : ℤ) → IsLegal opening all → all ≡ newer ++ (Read t x, Reply'.Value v) ∷ older → IsAlone all t.0
    → (source_at all (length older) ≡ Some (source_from (source older x.0))) × IsOwnOrCommitted older t x (source older x.0) × AreOwnOrCommitted older t x (added older x.0)
unfolding source_of
alone_found opening all newer older t x v legal is alone =
    let law = alone_source opening newer older t x v (rw is at legal) (rw is at alone) in
    rw is (source_between newer older (Read t x, Reply'.Value v), law.0, law.1)

-- ---- the sources together

-- an element of the first list
pub listed_front : {X : Type 0} (xs ys : List X) (i : ℕ) → i < length xs → slice_get (xs ++ ys) i ≡ slice_get xs i
listed_front [] ys i below = absurd (omega arith)
listed_front (x ∷ xs) ys zero below = refl
listed_front (x ∷ xs) ys (suc i) below = listed_front xs ys i (omega arith)

-- the element at the end
pub listed_end : {X : Type 0} (xs : List X) (y : X) → slice_get (xs ++ y ∷ []) (length xs) ≡ Some y
listed_end [] y = refl
listed_end (x ∷ xs) y = listed_end xs y

-- there are as many as entries
pub sources_long : (entries : List Entry) → length (sources_of entries) ≡ length entries
unfolding sources_of
sources_long [] = refl
sources_long (entry ∷ older) = omega (arith, length-append (sources_of older) (source_of older entry.0 entry.1 ∷ []), sources_long older)

-- each is that of its entry
pub each_source : (entries : List Entry) (i : ℕ) → i < length entries → slice_get (sources_of entries) i ≡ Some (source_at entries i)
unfolding sources_of source_at
each_source [] i below = absurd (omega arith)
each_source (entry ∷ older) i below =
    let within : i ≤ length older = omega (arith, below) in
    elim (eq-or-lt_of_le within) [
      | inr front ↦
          rw (ne_eqb i (length older) (λ same. omega (arith, same, front)))
          (listed_front (sources_of older) (source_of older entry.0 entry.1 ∷ []) i (omega (arith, front, sources_long older)) ∙ each_source older i front)
      | inl same ↦
          rw (eq-eqb i (length older) same)
          (ap (slice_get (sources_of older ++ source_of older entry.0 entry.1 ∷ [])) (same ∙ sym (sources_long older)) ∙ listed_end (sources_of older) (source_of older entry.0 entry.1))
    ]
