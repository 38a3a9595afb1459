-- One more entry of a walk.
use Rattle.std.proofs.Common.{◌≡◌, ℕ, ◌+◌, true, List, ◌∷◌, reverse, sym, ap, subst, Some}
use Rattle.std.specs.Prelude.{slice_get}
use Rattle.asset_names.specs.Steps.{Entry, takes_effect, applied}
use Rattle.asset_names.specs.Endings.{status}
use Rattle.asset_names.specs.Answers.{IsLegal}
use Rattle.asset_names.proofs.LegalLemmas.{legal_orderly}
use Rattle.asset_entries.specs.Recorded.{Recorded}
use Rattle.asset_entries.proofs.EntryLemmas.{next_entry}
use Rattle.asset_ends.specs.Shows.{Shows}
use Rattle.asset_ends.specs.Shown.{ShowsEntry}
use Rattle.asset_ends.specs.Standing.{Standing, values_of}
use Rattle.asset_steps.specs.Ready.{IsReady}
use Rattle.asset_steps.proofs.ReadyLemmas.{ready}
use Rattle.asset_sources.proofs.WalkLemmas.{legal_here, older_length}
use Rattle.asset_sources.specs.Walked.{first_entries}
use Rattle.asset_lanes.specs.Walked.{ShowsFirst}
use Rattle.asset_lanes.specs.Lanes.{spanned, span_of}

-- the entry at i finds tables ready that show the older ones
pub entry_ready : (history : Recorded) (i : ℕ) (tables : Standing) (entry : Entry) → slice_get (reverse history.entries) i ≡ Some entry → IsLegal history.opening history.entries → ShowsFirst history i tables
    → takes_effect entry.0 entry.1 ≡ true → IsReady entry.0 tables
unfolding IsLegal
entry_ready history i tables entry at legal stand effect =
    ready history.opening (applied (first_entries history i)) tables entry.0 entry.1 stand (legal_here history.opening history.entries i entry at legal).0 effect

-- and once it is applied, they show it too
pub entry_passed : (history : Recorded) (i : ℕ) (before after : Standing) (entry : Entry) → slice_get (reverse history.entries) i ≡ Some entry → IsLegal history.opening history.entries → ShowsFirst history i before
    → ShowsEntry before entry after → ShowsFirst history (i + 1) after
unfolding IsLegal
entry_passed history i before after entry at legal stand shows =
    let older = first_entries history i in
    let here = legal_here history.opening history.entries i entry at legal in
    subst Shown (sym (next_entry (reverse history.entries) i entry at)) (shows history.opening older stand (legal_orderly history.opening older here.1)) where
      Shown : List Entry → Type 0
      Shown entries = Shows history.opening (applied entries) (values_of after)

-- the span with one more entry
pub span_next : (history : Recorded) (i : ℕ) (n : ℕ) (entry : Entry) → slice_get (reverse history.entries) i ≡ Some entry
    → span_of (first_entries history (i + 1)) n ≡ spanned (span_of (first_entries history i) n) i (status (applied (first_entries history (i + 1))) n)
unfolding span_of
span_next history i n entry at =
    rw (next_entry (reverse history.entries) i entry at)
    (ap (λ (m : ℕ). spanned (span_of (first_entries history i) n) m (status (applied (entry ∷ first_entries history i)) n)) (older_length history.entries i entry at))
