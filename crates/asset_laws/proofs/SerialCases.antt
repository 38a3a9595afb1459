-- Worked rows of serial histories, computed on the definitions.
use Rattle.std.specs.Prelude.{◌≡◌, pos, List, [], ◌∷◌, ◌++◌, None, reverse, refl}
use Rattle.asset_names.specs.declared.sets.ObSet.TheVariants.{Listed}
use Rattle.asset_names.specs.declared.steps.Step.TheVariants.{Initiate, Begin, Read, Write, Complete, Permit, Commit, Abort}
use Rattle.asset_names.specs.declared.replies.Refusal.TheVariants.{Ended, TooLate}
use Rattle.asset_names.specs.declared.replies.Reply.TheVariants.{Value, Committed, Aborted, Refused}
use Rattle.asset_names.specs.Arrows.{lists, linked, among}
use Rattle.asset_names.specs.Paths.{both_ways}
use Rattle.asset_names.specs.Steps.{Entry, takes_effect, applied, initiated_by, initiated}
use Rattle.asset_names.specs.Endings.{dependency_by, dependencies, class_arrows, doom_arrows, ended_by, end_of, live}
use Rattle.asset_names.specs.Groups.{actor}
use Rattle.asset_names.proofs.Cases.{t, x}
use Rattle.asset_names.proofs.PermitCases.{read_only}
use Rattle.asset_laws.specs.Serial.{committed_by, committed_names, entries_of, serial}
use Rattle.asset_laws.proofs.GroupCases.{done}

-- the entries of a transaction that writes, completes and commits, with refused steps after its commit, and of one that reads
abbrev writer : List Entry
writer = done (Initiate (t 7) None) ∷ done (Begin (t 7)) ∷ done (Write (t 7) (x 1) (pos 50)) ∷ done (Complete (t 7)) ∷ (Commit (t 7), Committed) ∷ (Abort (t 7), Refused (TooLate (t 7))) ∷ (Begin (t 7), Refused (Ended (t 7))) ∷ []

abbrev reader : List Entry
reader = done (Initiate (t 8) None) ∷ done (Begin (t 8)) ∷ (Read (t 8) (x 1), Value (pos 50)) ∷ done (Complete (t 8)) ∷ (Commit (t 8), Committed) ∷ []

-- two that interleave, beside one that aborts and one that does not end: the first to commit comes first, each with all its
-- entries
abbrev interleaved : List Entry
interleaved = reverse (done (Initiate (t 8) None) ∷ done (Initiate (t 7) None) ∷ done (Begin (t 7)) ∷ done (Begin (t 8)) ∷ done (Initiate (t 9) None) ∷ done (Write (t 7) (x 1) (pos 50)) ∷ done (Complete (t 7)) ∷ (Commit (t 7), Committed)
    ∷ (Read (t 8) (x 1), Value (pos 50)) ∷ (Abort (t 7), Refused (TooLate (t 7))) ∷ done (Initiate (t 6) None) ∷ (Abort (t 9), Aborted) ∷ done (Complete (t 8)) ∷ (Begin (t 7), Refused (Ended (t 7))) ∷ (Commit (t 8), Committed) ∷ [])

-- a reader whom the writer permits commits first: alone it would have read another value, so sharing nothing is a premise
abbrev pub permitted : List Entry
permitted = reverse (done (Initiate (t 7) None) ∷ done (Begin (t 7)) ∷ done (Write (t 7) (x 1) (pos 50)) ∷ done (Initiate (t 8) None) ∷ done (Begin (t 8)) ∷ done (Permit (t 7) (t 8) (Listed (x 1 ∷ [])) read_only)
    ∷ (Read (t 8) (x 1), Value (pos 50)) ∷ done (Complete (t 8)) ∷ (Commit (t 8), Committed) ∷ (Abort (t 7), Aborted) ∷ [])

abbrev nobody : List Entry
nobody = reverse (done (Initiate (t 7) None) ∷ done (Begin (t 7)) ∷ (Abort (t 7), Aborted) ∷ [])

serial_rows : (serial interleaved ≡ reverse (writer ++ reader)) × (serial permitted ≡ reverse reader) × (serial nobody ≡ [])
unfolding serial entries_of committed_names committed_by actor live end_of ended_by class_arrows doom_arrows dependencies dependency_by both_ways initiated initiated_by applied takes_effect among linked lists
serial_rows = (refl, refl, refl)
