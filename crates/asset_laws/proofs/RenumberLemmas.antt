-- A legal history with the numbers of entries in place of values is legal, and each object has the number of its source.
use Rattle.std.proofs.Common.{◌≡◌, ℕ, suc, ℤ, pos, ◌+ℤ◌, w64, Bool, true, false, cond, not, eqb, ◌&&◌, ◌<◌, ◌^◌, List, [], ◌∷◌, map, length, refl, sym, ◌∙◌, ap, arith, None, Some}
use Rattle.std.specs.Prelude.{Option, ◌+◌, find, zip, is_some, nat_le, option_map, sum_by, unwrap_or}
use Rattle.std.specs.Int.{int_wrap}
use Rattle.std.specs.Int.RustNames.{FitsSigned}
use Rattle.std.proofs.lemmas.Int.{int_wrap_fits, fits_signed_from_abs}
use Rattle.std.proofs.Math.IntN.{+ℤ_idr}
use Rattle.asset_names.specs.declared.names.Ob.{Ob}
use Rattle.asset_names.specs.declared.operations.Op.TheVariants as Op'
use Rattle.asset_names.specs.declared.sets.ObSet.{ObSet}
use Rattle.asset_names.specs.declared.sets.ObSet.TheVariants.{All, Listed}
use Rattle.asset_names.specs.declared.steps.Step.{Step}
use Rattle.asset_names.specs.declared.steps.Step.TheVariants.{Initiate, Begin, Read, Write, Add, Complete, Permit, PermitAny, Delegate, Depend, Commit, Abort, WaitFor}
use Rattle.asset_names.specs.declared.replies.Refusal.{Refusal}
use Rattle.asset_names.specs.declared.replies.Reply.{Reply}
use Rattle.asset_names.specs.declared.replies.Reply.TheVariants as Reply'
use Rattle.asset_names.specs.declared.replies.Outcome.{Outcome}
use Rattle.asset_names.specs.declared.replies.Outcome.TheVariants.{Answer, Wait}
use Rattle.asset_names.specs.InSet.{in_set}
use Rattle.asset_names.specs.Steps.{Opening, Entry, takes_effect, applied}
use Rattle.asset_names.specs.Endings.{end_of}
use Rattle.asset_names.specs.Operations.{Use, reads, writes, adds, Operation, handed_over, operated, operations, free, was_aborted, stands, exists, opening_at, opening_value, after_use, value_after, value}
use Rattle.asset_names.specs.Answers.{unknown, ended, not_running, taken, begun_before, too_late, no_object, cycle, missing_in, missing_rule, no_object_of, rules_for, first_refusal, unrefused, outcome_unless, answer, IsLegal}
use Rattle.asset_names.specs.Room.{owed_to, owed, fits}
use Rattle.asset_names.specs.Sources.{Numbered, is_operation, is_write, operation_numbers, numbered, stands_on, source}
use Rattle.asset_laws.specs.Renumbered.{source_number, writing, reading, outcome_read, renumbered, zeroed}
use Rattle.asset_laws.proofs.ShapeLemmas.{IsSameShape, shape, status_same, would_cycle_same, may_commit_same, free_same, same_more}

-- ---- the opening

zeroed_at : (opening : Opening) (x : ℕ) → opening_at (zeroed opening) x ≡ option_map (λ (v : ℤ). pos 0) (opening_at opening x)
unfolding opening_at zeroed
zeroed_at [] x = refl
zeroed_at (given ∷ opening) x = go (eqb given.0.0 x) (zeroed_at opening x) where
  zero_of : Ob × ℤ → Ob × ℤ
  zero_of pair = (pair.0, pos 0)

  first : Opening → Option (Ob × ℤ)
  first pairs = find (λ (pair : Ob × ℤ). eqb pair.0.0 x) pairs

  go : (here : Bool) → option_map (λ (pair : Ob × ℤ). pair.1) (first (zeroed opening)) ≡ option_map (λ (v : ℤ). pos 0) (option_map (λ (pair : Ob × ℤ). pair.1) (first opening))
      → option_map (λ (pair : Ob × ℤ). pair.1) (cond here (Some (zero_of given)) (first (zeroed opening))) ≡ option_map (λ (v : ℤ). pos 0) (option_map (λ (pair : Ob × ℤ). pair.1) (cond here (Some given) (first opening)))
  go true rest = refl
  go false rest = rest

exists_zeroed : (opening : Opening) → exists (zeroed opening) ≡ exists opening
unfolding exists
exists_zeroed opening = λ i x. (ap is_some (zeroed_at opening x) ∙ some (opening_at opening x)) i where
  some : (found : Option ℤ) → is_some (option_map (λ (v : ℤ). pos 0) found) ≡ is_some found
  some None = refl
  some (Some v) = refl

value_zeroed : (opening : Opening) (x : ℕ) → opening_value (zeroed opening) x ≡ pos 0
unfolding opening_value
value_zeroed opening x = ap (λ found. unwrap_or found (pos 0)) (zeroed_at opening x) ∙ none (opening_at opening x) where
  none : (found : Option ℤ) → unwrap_or (option_map (λ (v : ℤ). pos 0) found) (pos 0) ≡ pos 0
  none None = refl
  none (Some v) = refl

missing_zeroed : (opening : Opening) (obs : ObSet) → no_object_of (zeroed opening) obs ≡ no_object_of opening obs
unfolding no_object_of missing_in
missing_zeroed opening All = refl
missing_zeroed opening (Listed list) = λ i. missing_rule (find (λ (x : Ob). not (exists_zeroed opening i x.0)) list)

-- ---- steps

-- the same steps take effect
pub effect_same : (n : ℕ) (older : List Entry) (step : Step) (reply : Reply) → takes_effect (writing n step) (reading older step reply) ≡ takes_effect step reply
unfolding writing reading takes_effect
effect_same n older (Initiate t parent) reply = refl
effect_same n older (Begin t) reply = refl
effect_same n older (Read t x) Reply'.Done = refl
effect_same n older (Read t x) (Reply'.Value v) = refl
effect_same n older (Read t x) Reply'.Committed = refl
effect_same n older (Read t x) Reply'.Aborted = refl
effect_same n older (Read t x) (Reply'.Refused refusal) = refl
effect_same n older (Write t x v) reply = by reply where
  by : (reply : Reply) → takes_effect (Write t x (pos (suc n))) reply ≡ takes_effect (Write t x v) reply
  by Reply'.Done = refl
  by (Reply'.Value w) = refl
  by Reply'.Committed = refl
  by Reply'.Aborted = refl
  by (Reply'.Refused refusal) = refl
effect_same n older (Add t x d) reply = by reply where
  by : (reply : Reply) → takes_effect (Add t x (pos 0)) reply ≡ takes_effect (Add t x d) reply
  by Reply'.Done = refl
  by (Reply'.Value w) = refl
  by Reply'.Committed = refl
  by Reply'.Aborted = refl
  by (Reply'.Refused refusal) = refl
effect_same n older (Complete t) reply = refl
effect_same n older (Permit giver taker obs ops) reply = refl
effect_same n older (Delegate giver taker obs) reply = refl
effect_same n older (Depend kind a b) reply = refl
effect_same n older (Commit t) reply = refl
effect_same n older (Abort t) reply = refl
effect_same n older (WaitFor t) reply = refl
effect_same n older (PermitAny giver obs ops) reply = refl

same_none : IsSameShape [] []
unfolding shape
same_none = record { initiated_same = refl; begun_same = refl; completed_same = refl; ends_same = λ n. refl; dependencies_same = λ kind. refl; shapes_same = refl; permits_same = λ x op. refl; openers_same = λ x op. refl }

-- the steps that take effect say the same but for the values that are written
pub renumbered_same : (entries : List Entry) → IsSameShape (applied (renumbered entries)) (applied entries)
unfolding applied renumbered
renumbered_same [] = same_none
renumbered_same (entry ∷ older) = rw (effect_same (length older) older entry.0 entry.1) (go (takes_effect entry.0 entry.1) (renumbered_same older)) where
  go : (effect : Bool) → IsSameShape (applied (renumbered older)) (applied older)
      → IsSameShape (cond effect (writing (length older) entry.0 ∷ applied (renumbered older)) (applied (renumbered older))) (cond effect (entry.0 ∷ applied older) (applied older))
  go true same = same_more (applied (renumbered older)) (applied older) same (length older) entry.0
  go false same = same

-- ---- operations

-- what a use becomes, and an operation: a write writes its number, and an add adds 0
renumbered_use : ℕ → Use → Use
renumbered_use m reads = reads
renumbered_use m (writes v) = writes (pos (suc m))
renumbered_use m (adds d) = adds (pos 0)

as_number : Numbered → Operation
as_number found = record { owner = found.1.owner; object = found.1.object; use_of = renumbered_use found.0 found.1.use_of }

handed_numbers : (giver taker : ℕ) (obs : ObSet) (numbers : List ℕ) (os : List Operation) → map (handed_over giver taker obs) (map as_number (zip numbers os)) ≡ map as_number (zip numbers (map (handed_over giver taker obs) os))
unfolding handed_over as_number
handed_numbers giver taker obs [] os = refl
handed_numbers giver taker obs (m ∷ numbers) [] = refl
handed_numbers giver taker obs (m ∷ numbers) (o ∷ os) = λ i. one (eqb o.owner giver && in_set obs o.object) i ∷ handed_numbers giver taker obs numbers os i where
  one : (moves : Bool) → cond moves (record (as_number (m, o)) { owner = taker }) (as_number (m, o)) ≡ as_number (m, cond moves (record o { owner = taker }) o)
  one true = refl
  one false = refl

-- the operations are the numbered ones, each write with its number
numbered_operations : (entries : List Entry) → operations (applied (renumbered entries)) ≡ map as_number (zip (operation_numbers entries) (operations (applied entries)))
unfolding applied renumbered operation_numbers operations operated is_operation writing as_number renumbered_use
numbered_operations [] = refl
numbered_operations (entry ∷ older) = rw (effect_same (length older) older entry.0 entry.1) (go (takes_effect entry.0 entry.1) (numbered_operations older)) where
  Rest : Type 0
  Rest = operations (applied (renumbered older)) ≡ map as_number (zip (operation_numbers older) (operations (applied older)))

  by : (step : Step) → Rest → operated (writing (length older) step) (operations (applied (renumbered older)))
      ≡ map as_number (zip (cond (is_operation step) (length older ∷ operation_numbers older) (operation_numbers older)) (operated step (operations (applied older))))
  by (Initiate t parent) rest = rest
  by (Begin t) rest = rest
  by (Read t x) rest = ap (λ os. record { owner = t.0; object = x.0; use_of = reads } ∷ os) rest
  by (Write t x v) rest = ap (λ os. record { owner = t.0; object = x.0; use_of = writes (pos (suc (length older))) } ∷ os) rest
  by (Add t x d) rest = ap (λ os. record { owner = t.0; object = x.0; use_of = adds (pos 0) } ∷ os) rest
  by (Complete t) rest = rest
  by (Permit giver taker obs ops) rest = rest
  by (Delegate giver taker obs) rest = ap (map (handed_over giver.0 taker.0 obs)) rest ∙ handed_numbers giver.0 taker.0 obs (operation_numbers older) (operations (applied older))
  by (Depend kind a b) rest = rest
  by (Commit t) rest = rest
  by (Abort t) rest = rest
  by (WaitFor t) rest = rest
  by (PermitAny giver obs ops) rest = rest

  go : (effect : Bool) → Rest → operations (cond effect (writing (length older) entry.0 ∷ applied (renumbered older)) (applied (renumbered older)))
      ≡ map as_number (zip (cond (effect && is_operation entry.0) (length older ∷ operation_numbers older) (operation_numbers older)) (operations (cond effect (entry.0 ∷ applied older) (applied older))))
  go true rest = by entry.0 rest
  go false rest = rest

-- ---- values

-- each number is that of an entry of a history that is not too long
unfoldable AllSmall : List ℕ → Type 0
AllSmall [] = Unit {0}
AllSmall (m ∷ numbers) = (suc m < 2 ^ 63) × AllSmall numbers

numbers_small : (entries : List Entry) → length entries < 2 ^ 63 → AllSmall (operation_numbers entries)
unfolding AllSmall operation_numbers
numbers_small [] short = tt
numbers_small (entry ∷ older) short = go (takes_effect entry.0 entry.1 && is_operation entry.0) (numbers_small older (omega (arith, short))) where
  go : (operates : Bool) → AllSmall (operation_numbers older) → AllSmall (cond operates (length older ∷ operation_numbers older) (operation_numbers older))
  go true rest = (omega (arith, short), rest)
  go false rest = rest

-- the number of a source is an i64, so that adding 0 leaves it
source_fits : (test : Numbered → Bool) (numbers : List ℕ) (os : List Operation) → AllSmall numbers → FitsSigned w64 (source_number (find test (zip numbers os)))
unfolding AllSmall source_number
source_fits test [] os small = fits_signed_from_abs w64 (pos 0) (omega arith)
source_fits test (m ∷ numbers) [] small = fits_signed_from_abs w64 (pos 0) (omega arith)
source_fits test (m ∷ numbers) (o ∷ os) small = go (test (m, o)) (source_fits test numbers os small.1) where
  go : (here : Bool) → FitsSigned w64 (source_number (find test (zip numbers os))) → FitsSigned w64 (source_number (cond here (Some (m, o)) (find test (zip numbers os))))
  go true rest = fits_signed_from_abs w64 (pos (suc m)) (let fits = small.0 in omega (arith, fits))
  go false rest = rest

adding_none : (v : ℤ) → FitsSigned w64 v → int_wrap w64 (v +ℤ pos 0) ≡ v
adding_none v fits = ap (int_wrap w64) (+ℤ_idr v) ∙ int_wrap_fits w64 v fits

-- the value after numbered operations is the number of the first write that stands
number_found : (entries : List Entry) (ones : List Step) → ((n : ℕ) → end_of ones n ≡ end_of (applied entries) n) → (x : ℕ) (numbers : List ℕ) (os : List Operation) → AllSmall numbers
    → value_after (stands ones) x (pos 0) (map as_number (zip numbers os)) ≡ source_number (find (stands_on entries x) (zip numbers os))
unfolding value_after source_number stands_on stands is_write after_use as_number renumbered_use AllSmall
number_found entries ones ends x [] os small = refl
number_found entries ones ends x (m ∷ numbers) [] small = refl
number_found entries ones ends x (m ∷ numbers) (o ∷ os) small = rw (ends o.owner) (go (eqb o.object x) (not (was_aborted (end_of (applied entries) o.owner))) o.use_of (number_found entries ones ends x numbers os small.1)) where
  Rest : Type 0
  Rest = value_after (stands ones) x (pos 0) (map as_number (zip numbers os)) ≡ source_number (find (stands_on entries x) (zip numbers os))

  go : (here up : Bool) (how : Use) → Rest
      → cond (here && up) (after_use (renumbered_use m how) (value_after (stands ones) x (pos 0) (map as_number (zip numbers os)))) (value_after (stands ones) x (pos 0) (map as_number (zip numbers os)))
      ≡ source_number (cond (here && is_write how && up) (Some (m, o)) (find (stands_on entries x) (zip numbers os)))
  go true true (writes v) rest = refl
  go true true (adds d) rest = ap (λ v. int_wrap w64 (v +ℤ pos 0)) rest ∙ adding_none (source_number (find (stands_on entries x) (zip numbers os))) (source_fits (stands_on entries x) numbers os small.1)
  go true true reads rest = rest
  go true false (writes v) rest = rest
  go true false (adds d) rest = rest
  go true false reads rest = rest
  go false up how rest = rest

-- each object has the number of its source
pub value_is_source : (opening : Opening) (entries : List Entry) → length entries < 2 ^ 63 → (x : ℕ) → value (zeroed opening) (applied (renumbered entries)) x ≡ source_number (source entries x)
unfolding value source numbered
value_is_source opening entries short x =
    rw (value_zeroed opening x, numbered_operations entries)
    (number_found entries (applied (renumbered entries)) (renumbered_same entries).ends_same x (operation_numbers entries) (operations (applied entries)) (numbers_small entries short))

-- ---- answers

rules_same : (opening : Opening) (ones others : List Step) → IsSameShape ones others → (n : ℕ) (step : Step) → rules_for (zeroed opening) ones (writing n step) ≡ rules_for opening others step
unfolding rules_for unknown ended not_running taken begun_before too_late no_object cycle writing
rules_same opening ones others same n (Initiate t parent) = rw (status_same ones others same t.0) refl
rules_same opening ones others same n (Begin t) = rw (status_same ones others same t.0) refl
rules_same opening ones others same n (Read t x) = rw (status_same ones others same t.0, ap (λ e. e x.0) (exists_zeroed opening)) refl
rules_same opening ones others same n (Write t x v) = rw (status_same ones others same t.0, ap (λ e. e x.0) (exists_zeroed opening)) refl
rules_same opening ones others same n (Add t x d) = rw (status_same ones others same t.0, ap (λ e. e x.0) (exists_zeroed opening)) refl
rules_same opening ones others same n (Complete t) = rw (status_same ones others same t.0) refl
rules_same opening ones others same n (Permit giver taker obs ops) = rw (status_same ones others same giver.0, status_same ones others same taker.0, missing_zeroed opening obs) refl
rules_same opening ones others same n (Delegate giver taker obs) = rw (status_same ones others same giver.0, status_same ones others same taker.0, missing_zeroed opening obs) refl
rules_same opening ones others same n (Depend kind a b) = rw (status_same ones others same a.0, status_same ones others same b.0, would_cycle_same ones others same kind a.0 b.0) refl
rules_same opening ones others same n (Commit t) = rw (status_same ones others same t.0) refl
rules_same opening ones others same n (Abort t) = rw (status_same ones others same t.0) refl
rules_same opening ones others same n (WaitFor t) = rw (status_same ones others same t.0) refl
rules_same opening ones others same n (PermitAny giver obs ops) = rw (status_same ones others same giver.0, missing_zeroed opening (Listed obs)) refl

-- a refusal is read as it is
reading_refused : (older : List Entry) (step : Step) (refusal : Refusal) → reading older step (Reply'.Refused refusal) ≡ Reply'.Refused refusal
unfolding reading
reading_refused older (Initiate t parent) refusal = refl
reading_refused older (Begin t) refusal = refl
reading_refused older (Read t x) refusal = refl
reading_refused older (Write t x v) refusal = refl
reading_refused older (Add t x d) refusal = refl
reading_refused older (Complete t) refusal = refl
reading_refused older (Permit giver taker obs ops) refusal = refl
reading_refused older (Delegate giver taker obs) refusal = refl
reading_refused older (Depend kind a b) refusal = refl
reading_refused older (Commit t) refusal = refl
reading_refused older (Abort t) refusal = refl
reading_refused older (WaitFor t) refusal = refl
reading_refused older (PermitAny giver obs ops) refusal = refl

-- an outcome stays if no reply to the step is read otherwise
outcome_stays : (older : List Entry) (step : Step) → ((reply : Reply) → reading older step reply ≡ reply) → (outcome : Outcome) → outcome ≡ outcome_read older step outcome
unfolding outcome_read
outcome_stays older step same (Answer reply) = ap Answer (sym (same reply))
outcome_stays older step same Wait = refl

unrefused_read : (opening : Opening) (ones : List Step) (older : List Entry) → IsSameShape ones (applied older) → ((x : ℕ) → value (zeroed opening) ones x ≡ source_number (source older x)) → (n : ℕ) (step : Step)
    → unrefused (zeroed opening) ones (writing n step) ≡ outcome_read older step (unrefused opening (applied older) step)
unfolding unrefused writing outcome_read reading
unrefused_read opening ones older same sources n (Initiate t parent) = refl
unrefused_read opening ones older same sources n (Begin t) = refl
unrefused_read opening ones older same sources n (Read t x) = rw (free_same ones (applied older) same t.0 x.0 Op'.Read, sources x.0) (by (free (applied older) t.0 x.0 Op'.Read)) where
  by : (is_free : Bool) → cond is_free (Answer (Reply'.Value (source_number (source older x.0)))) Wait ≡ outcome_read older (Read t x) (cond is_free (Answer (Reply'.Value (value opening (applied older) x.0))) Wait)
  by true = refl
  by false = refl
unrefused_read opening ones older same sources n (Write t x v) = rw (free_same ones (applied older) same t.0 x.0 Op'.Write) (by (free (applied older) t.0 x.0 Op'.Write)) where
  by : (is_free : Bool) → cond is_free (Answer Reply'.Done) Wait ≡ outcome_read older (Write t x v) (cond is_free (Answer Reply'.Done) Wait)
  by true = refl
  by false = refl
unrefused_read opening ones older same sources n (Add t x d) = rw (free_same ones (applied older) same t.0 x.0 Op'.Add) (by (free (applied older) t.0 x.0 Op'.Add)) where
  by : (is_free : Bool) → cond is_free (Answer Reply'.Done) Wait ≡ outcome_read older (Add t x d) (cond is_free (Answer Reply'.Done) Wait)
  by true = refl
  by false = refl
unrefused_read opening ones older same sources n (Complete t) = refl
unrefused_read opening ones older same sources n (Permit giver taker obs ops) = refl
unrefused_read opening ones older same sources n (Delegate giver taker obs) = refl
unrefused_read opening ones older same sources n (Depend kind a b) = refl
unrefused_read opening ones older same sources n (Commit t) = rw (status_same ones (applied older) same t.0, may_commit_same ones (applied older) same t.0) (outcome_stays older (Commit t) (λ reply. refl) _)
unrefused_read opening ones older same sources n (Abort t) = refl
unrefused_read opening ones older same sources n (WaitFor t) = rw (status_same ones (applied older) same t.0) (outcome_stays older (WaitFor t) (λ reply. refl) _)
unrefused_read opening ones older same sources n (PermitAny giver obs ops) = refl

-- a step with its number has the outcome of the step, but that a read reads the number of its source
pub outcome_renumbered : (opening : Opening) (older : List Entry) → length older < 2 ^ 63 → (step : Step)
    → answer (zeroed opening) (applied (renumbered older)) (writing (length older) step) ≡ outcome_read older step (answer opening (applied older) step)
unfolding answer outcome_unless outcome_read
outcome_renumbered opening older short step =
    rw (rules_same opening (applied (renumbered older)) (applied older) (renumbered_same older) (length older) step) (go (first_refusal (rules_for opening (applied older) step))) where
      go : (first : Option Refusal) → outcome_unless first (unrefused (zeroed opening) (applied (renumbered older)) (writing (length older) step))
          ≡ outcome_read older step (outcome_unless first (unrefused opening (applied older) step))
      go None = unrefused_read opening (applied (renumbered older)) older (renumbered_same older) (value_is_source opening older short) (length older) step
      go (Some refusal) = ap Answer (sym (reading_refused older step refusal))

renumbered_answer : (opening : Opening) (entry : Entry) (older : List Entry) → length older < 2 ^ 63 → answer opening (applied older) entry.0 ≡ Answer entry.1
    → answer (zeroed opening) (applied (renumbered older)) (writing (length older) entry.0) ≡ Answer (reading older entry.0 entry.1)
unfolding outcome_read
renumbered_answer opening entry older short is = outcome_renumbered opening older short entry.0 ∙ ap (outcome_read older entry.0) is

-- ---- room

-- as many entries are owed, so as many fit
pub room_renumbered : (entries : List Entry) (count capacity : ℕ) → fits (applied (renumbered entries)) count capacity ≡ fits (applied entries) count capacity
unfolding fits owed
room_renumbered entries count capacity =
    let same = renumbered_same entries in
    λ i. nat_le (count + sum_by (λ n. owed_to (status_same (applied (renumbered entries)) (applied entries) same n i)) (same.initiated_same i)) capacity

-- the history with numbers in place of values is legal
pub renumbered_legal : (opening : Opening) (entries : List Entry) → length entries < 2 ^ 63 → IsLegal opening entries → IsLegal (zeroed opening) (renumbered entries)
unfolding IsLegal renumbered
renumbered_legal opening [] short legal = legal
renumbered_legal opening (entry ∷ older) short legal = let less : length older < 2 ^ 63 = omega (arith, short) in (renumbered_answer opening entry older less legal.0, renumbered_legal opening older less legal.1)
