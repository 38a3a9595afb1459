-- Marks and arrows by the numbers of their entries.
use Rattle.std.proofs.Common.{◌≡◌, ℕ, ◌+◌, ◌≤◌, Bool, true, false, cond, List, [], ◌∷◌, ◌++◌, length, drop, take, reverse, refl, sym, ap, subst, ◌∙◌, arith, Some, None, inl, inr, append-nil}
use Rattle.std.specs.Prelude.{◌==◌, ◌&&◌, Option, slice_get}
use Rattle.std.proofs.lemmas.Bool.{eq-eqb, ne_eqb, false≢true}
use Rattle.std.proofs.lemmas.List.{length-append, length-reverse}
use Rattle.std.proofs.lemmas.List.Elements.{filter-append}
use Rattle.std.proofs.lemmas.Option.{same_Some, none-some, slice_get_cases}
use Rattle.asset_names.specs.declared.operations.Op.TheVariants as Op'
use Rattle.asset_names.specs.declared.steps.Step.{Step}
use Rattle.asset_names.specs.declared.steps.Step.TheVariants.{Initiate, Begin, Read, Write, Add, Complete, Permit, PermitAny, Delegate, Depend, Commit, Abort, WaitFor}
use Rattle.asset_names.specs.declared.replies.Reply.{Reply}
use Rattle.asset_names.specs.declared.replies.Reply.TheVariants as Reply'
use Rattle.asset_names.specs.Steps.{Entry, takes_effect}
use Rattle.asset_names.specs.Sources.{is_operation}
use Rattle.asset_names.specs.Groups.{actor}
use Rattle.asset_deletion.specs.Grouping.{Grouping, grouping_of}
use Rattle.asset_entries.proofs.EntryLemmas.{between}
use Rattle.asset_sources.proofs.WalkLemmas.{older_length}
use Rattle.asset_lanes.specs.declared.marking.Mark.{Mark}
use Rattle.asset_lanes.specs.Lanes.{row_of, lane_names}
use Rattle.asset_lanes.specs.Marks.{marked, mark_of, mark_list, marks}
use Rattle.asset_lanes.specs.Promised.{picture_marks, marks_numbered, operates, ShowsOperation, HasOneMark, HasNoMark}
use Rattle.asset_lanes.proofs.RowLemmas.{actor_in_lane}

-- ---- the mark of one entry

and_false_true : (b : Bool) → (b && false) ≡ true → ⊥
and_false_true true h = false≢true h
and_false_true false h = false≢true h

-- a mark has the number of its entry
mark_number : (groups : Grouping) (rows : List ℕ) (number : ℕ) (step : Step) (reply : Reply) (mark : Mark) → mark_of groups rows number step reply ≡ Some mark → mark.number ≡ number
unfolding mark_of marked
mark_number groups rows number (Initiate t parent) reply mark is = absurd cc
mark_number groups rows number (Begin t) reply mark is = absurd cc
mark_number groups rows number (Read t x) Reply'.Done mark is = absurd cc
mark_number groups rows number (Read t x) (Reply'.Value w) mark is = sym (ap (λ (m : Mark). m.number) (same_Some _ _ is))
mark_number groups rows number (Read t x) Reply'.Committed mark is = absurd cc
mark_number groups rows number (Read t x) Reply'.Aborted mark is = absurd cc
mark_number groups rows number (Read t x) (Reply'.Refused refusal) mark is = absurd cc
mark_number groups rows number (Write t x v) Reply'.Done mark is = sym (ap (λ (m : Mark). m.number) (same_Some _ _ is))
mark_number groups rows number (Add t x v) Reply'.Done mark is = sym (ap (λ (m : Mark). m.number) (same_Some _ _ is))
mark_number groups rows number (Write t x v) (Reply'.Value w) mark is = absurd cc
mark_number groups rows number (Add t x v) (Reply'.Value w) mark is = absurd cc
mark_number groups rows number (Write t x v) Reply'.Committed mark is = absurd cc
mark_number groups rows number (Add t x v) Reply'.Committed mark is = absurd cc
mark_number groups rows number (Write t x v) Reply'.Aborted mark is = absurd cc
mark_number groups rows number (Add t x v) Reply'.Aborted mark is = absurd cc
mark_number groups rows number (Write t x v) (Reply'.Refused refusal) mark is = absurd cc
mark_number groups rows number (Add t x v) (Reply'.Refused refusal) mark is = absurd cc
mark_number groups rows number (Complete t) reply mark is = absurd cc
mark_number groups rows number (Permit giver taker obs ops) reply mark is = absurd cc
mark_number groups rows number (PermitAny giver obs ops) reply mark is = absurd cc
mark_number groups rows number (Delegate giver taker obs) reply mark is = absurd cc
mark_number groups rows number (Depend kind a b) reply mark is = absurd cc
mark_number groups rows number (Commit t) reply mark is = absurd cc
mark_number groups rows number (Abort t) reply mark is = absurd cc
mark_number groups rows number (WaitFor t) reply mark is = absurd cc

-- of the marks of one entry, all or none have a number
numbered_list : (found : Option Mark) (number k : ℕ) → ((mark : Mark) → found ≡ Some mark → mark.number ≡ number) → marks_numbered k (mark_list found) ≡ cond (number == k) (mark_list found) []
unfolding marks_numbered mark_list
numbered_list None number k is = go [] (number == k) where
  go : (none : List Mark) (b : Bool) → none ≡ cond b none none
  go none true = refl
  go none false = refl
numbered_list (Some mark) number k is = ap (λ (n : ℕ). cond (n == k) (mark ∷ []) []) (is mark refl)

pub numbered_mark : (groups : Grouping) (rows : List ℕ) (number : ℕ) (step : Step) (reply : Reply) (k : ℕ)
    → marks_numbered k (mark_list (mark_of groups rows number step reply)) ≡ cond (number == k) (mark_list (mark_of groups rows number step reply)) []
numbered_mark groups rows number step reply k = numbered_list (mark_of groups rows number step reply) number k (mark_number groups rows number step reply)

-- the mark of an entry that operates is in its transaction's lane, and shows what was done
one_mark : (groups : Grouping) (rows : List ℕ) (number : ℕ) (step : Step) (reply : Reply) → (takes_effect step reply && is_operation step) ≡ true
    → (mark : Mark) × (mark_list (mark_of groups rows number step reply) ≡ mark ∷ []) × (mark.row ≡ row_of rows (actor step).0) × ShowsOperation mark step reply
unfolding takes_effect is_operation actor mark_list mark_of marked
one_mark groups rows number (Initiate t parent) reply operating = absurd (and_false_true (takes_effect (Initiate t parent) reply) operating)
one_mark groups rows number (Begin t) reply operating = absurd (and_false_true (takes_effect (Begin t) reply) operating)
one_mark groups rows number (Read t x) Reply'.Done operating = absurd (false≢true operating)
one_mark groups rows number (Read t x) (Reply'.Value w) operating = (marked groups rows number Op'.Read t x w, refl, refl, (refl, refl, refl))
one_mark groups rows number (Read t x) Reply'.Committed operating = absurd (false≢true operating)
one_mark groups rows number (Read t x) Reply'.Aborted operating = absurd (false≢true operating)
one_mark groups rows number (Read t x) (Reply'.Refused refusal) operating = absurd (false≢true operating)
one_mark groups rows number (Write t x v) Reply'.Done operating = (marked groups rows number Op'.Write t x v, refl, refl, (refl, refl, refl))
one_mark groups rows number (Add t x v) Reply'.Done operating = (marked groups rows number Op'.Add t x v, refl, refl, (refl, refl, refl))
one_mark groups rows number (Write t x v) (Reply'.Value w) operating = absurd (false≢true operating)
one_mark groups rows number (Add t x v) (Reply'.Value w) operating = absurd (false≢true operating)
one_mark groups rows number (Write t x v) Reply'.Committed operating = absurd (false≢true operating)
one_mark groups rows number (Add t x v) Reply'.Committed operating = absurd (false≢true operating)
one_mark groups rows number (Write t x v) Reply'.Aborted operating = absurd (false≢true operating)
one_mark groups rows number (Add t x v) Reply'.Aborted operating = absurd (false≢true operating)
one_mark groups rows number (Write t x v) (Reply'.Refused refusal) operating = absurd (false≢true operating)
one_mark groups rows number (Add t x v) (Reply'.Refused refusal) operating = absurd (false≢true operating)
one_mark groups rows number (Complete t) reply operating = absurd (and_false_true (takes_effect (Complete t) reply) operating)
one_mark groups rows number (Permit giver taker obs ops) reply operating = absurd (and_false_true (takes_effect (Permit giver taker obs ops) reply) operating)
one_mark groups rows number (PermitAny giver obs ops) reply operating = absurd (and_false_true (takes_effect (PermitAny giver obs ops) reply) operating)
one_mark groups rows number (Delegate giver taker obs) reply operating = absurd (and_false_true (takes_effect (Delegate giver taker obs) reply) operating)
one_mark groups rows number (Depend kind a b) reply operating = absurd (and_false_true (takes_effect (Depend kind a b) reply) operating)
one_mark groups rows number (Commit t) reply operating = absurd (and_false_true (takes_effect (Commit t) reply) operating)
one_mark groups rows number (Abort t) reply operating = absurd (and_false_true (takes_effect (Abort t) reply) operating)
one_mark groups rows number (WaitFor t) reply operating = absurd (and_false_true (takes_effect (WaitFor t) reply) operating)

-- an entry that does not operate has none
no_mark : (groups : Grouping) (rows : List ℕ) (number : ℕ) (step : Step) (reply : Reply) → (takes_effect step reply && is_operation step) ≡ false → mark_list (mark_of groups rows number step reply) ≡ []
unfolding takes_effect is_operation mark_list mark_of
no_mark groups rows number (Initiate t parent) reply operating = refl
no_mark groups rows number (Begin t) reply operating = refl
no_mark groups rows number (Read t x) Reply'.Done operating = refl
no_mark groups rows number (Read t x) (Reply'.Value w) operating = absurd (false≢true (sym operating))
no_mark groups rows number (Read t x) Reply'.Committed operating = refl
no_mark groups rows number (Read t x) Reply'.Aborted operating = refl
no_mark groups rows number (Read t x) (Reply'.Refused refusal) operating = refl
no_mark groups rows number (Write t x v) Reply'.Done operating = absurd (false≢true (sym operating))
no_mark groups rows number (Add t x v) Reply'.Done operating = absurd (false≢true (sym operating))
no_mark groups rows number (Write t x v) (Reply'.Value w) operating = refl
no_mark groups rows number (Add t x v) (Reply'.Value w) operating = refl
no_mark groups rows number (Write t x v) Reply'.Committed operating = refl
no_mark groups rows number (Add t x v) Reply'.Committed operating = refl
no_mark groups rows number (Write t x v) Reply'.Aborted operating = refl
no_mark groups rows number (Add t x v) Reply'.Aborted operating = refl
no_mark groups rows number (Write t x v) (Reply'.Refused refusal) operating = refl
no_mark groups rows number (Add t x v) (Reply'.Refused refusal) operating = refl
no_mark groups rows number (Complete t) reply operating = refl
no_mark groups rows number (Permit giver taker obs ops) reply operating = refl
no_mark groups rows number (PermitAny giver obs ops) reply operating = refl
no_mark groups rows number (Delegate giver taker obs) reply operating = refl
no_mark groups rows number (Depend kind a b) reply operating = refl
no_mark groups rows number (Commit t) reply operating = refl
no_mark groups rows number (Abort t) reply operating = refl
no_mark groups rows number (WaitFor t) reply operating = refl

-- ---- marks by number

-- no mark has a number past the entries
pub no_mark_past : (groups : Grouping) (rows : List ℕ) (entries : List Entry) (k : ℕ) → length entries ≤ k → marks_numbered k (marks groups rows entries) ≡ []
unfolding marks_numbered marks
no_mark_past groups rows [] k past = refl
no_mark_past groups rows (entry ∷ older) k past =
    filter-append (λ (mark : Mark). mark.number == k) (marks groups rows older) (mark_list (mark_of groups rows (length older) entry.0 entry.1))
    ∙ rw (no_mark_past groups rows older k (omega (arith, past)), numbered_mark groups rows (length older) entry.0 entry.1 k, ne_eqb (length older) k (λ same. omega (arith, same, past))) refl

-- the marks with the number of an entry are those of that entry
pub marks_between : (groups : Grouping) (rows : List ℕ) (newer older : List Entry) (entry : Entry)
    → marks_numbered (length older) (marks groups rows (newer ++ entry ∷ older)) ≡ mark_list (mark_of groups rows (length older) entry.0 entry.1)
unfolding marks_numbered marks
marks_between groups rows [] older entry =
    filter-append (λ (mark : Mark). mark.number == length older) (marks groups rows older) (mark_list (mark_of groups rows (length older) entry.0 entry.1))
    ∙ rw (no_mark_past groups rows older (length older) (omega arith), numbered_mark groups rows (length older) entry.0 entry.1 (length older), eq-eqb (length older) (length older) refl) refl
marks_between groups rows (new ∷ newer) older entry =
    filter-append (λ (mark : Mark). mark.number == length older) (marks groups rows (newer ++ entry ∷ older)) (mark_list (mark_of groups rows (length (newer ++ entry ∷ older)) new.0 new.1))
    ∙ rw (
      marks_between groups rows newer older entry,
      numbered_mark groups rows (length (newer ++ entry ∷ older)) new.0 new.1 (length older),
      ne_eqb (length (newer ++ entry ∷ older)) (length older) (λ same. omega (arith, same, length-append newer (entry ∷ older))),
    ) (append-nil (mark_list (mark_of groups rows (length older) entry.0 entry.1)))

-- ---- the promise of marks

-- the marks with the number of an entry
pub marks_at : (groups : Grouping) (rows : List ℕ) (entries : List Entry) (i : ℕ) (entry : Entry) → slice_get (reverse entries) i ≡ Some entry
    → marks_numbered i (marks groups rows entries) ≡ mark_list (mark_of groups rows i entry.0 entry.1)
marks_at groups rows entries i entry at =
    let newer = reverse (drop (i + 1) (reverse entries)) in
    let older = reverse (take i (reverse entries)) in
    subst (λ (l : List Entry). marks_numbered i (marks groups rows l) ≡ mark_list (mark_of groups rows i entry.0 entry.1)) (between entries i entry at)
    (subst (λ (n : ℕ). marks_numbered n (marks groups rows (newer ++ entry ∷ older)) ≡ mark_list (mark_of groups rows n entry.0 entry.1)) (older_length entries i entry at)
    (marks_between groups rows newer older entry))

pub has_one_mark : (entries : List Entry) (i : ℕ) (entry : Entry) → slice_get (reverse entries) i ≡ Some entry → operates entry ≡ true → HasOneMark entries i entry
unfolding picture_marks operates
has_one_mark entries i entry at operating =
    let groups = grouping_of entries in
    let rows = lane_names groups in
    let one = one_mark groups rows i entry.0 entry.1 operating in
    (one.0, marks_at groups rows entries i entry at ∙ one.1, ap (λ (row : ℕ). slice_get rows row) one.2 ∙ actor_in_lane entries i entry at, one.3)

pub has_no_mark : (entries : List Entry) (i : ℕ) (entry : Entry) → slice_get (reverse entries) i ≡ Some entry → operates entry ≡ false → HasNoMark entries i
unfolding picture_marks operates
has_no_mark entries i entry at operating =
    let groups = grouping_of entries in
    let rows = lane_names groups in
    marks_at groups rows entries i entry at ∙ no_mark groups rows i entry.0 entry.1 operating

pub none_past : (entries : List Entry) (i : ℕ) → slice_get (reverse entries) i ≡ None → HasNoMark entries i
unfolding picture_marks
none_past entries i past =
    elim (slice_get_cases (reverse entries) i).1 [
      | inl here ↦ absurd (none-some here.0 (sym past ∙ here.2))
      | inr beyond ↦ no_mark_past (grouping_of entries) (lane_names (grouping_of entries)) entries i (omega (arith, beyond.0, length-reverse entries))
    ]
