use Rattle.std.proofs.Common.{◌≡◌, ℕ, ap, ◌∙◌, refl}
use Rattle.asset_names.specs.Steps.{Opening}
use Rattle.asset_entries.specs.Recorded.{opened}
use Rattle.asset_core.specs.Pending.{Facility, facility_of}
use Rattle.asset_scripts.specs.declared.preamble.ObjectLine.{ObjectLine}
use Rattle.asset_scripts.specs.declared.preamble.ObjectLine.TheVariants.{More, First, Bad}
use Rattle.asset_scripts.specs.Preamble.{begun_at, transcript_begun, transcript_from}
use Rattle.asset_cli.proofs.TranscriptLemmas.{finished_plays, stopped_plays}
use Rattle.asset_cli.proofs.rendering.play_from.Goals as goal

pub returns-in-Bad-clause-played : goal.returns-in-Bad-clause-played
unfolding transcript_from begun_at transcript_begun
returns-in-Bad-clause-played c = rw c.in-Bad.is (stopped_plays _ _ _ _ c.in_ok-push_bad_line.ensures)

pub play_steps-requires : goal.play_steps-requires
play_steps-requires c = record { few = c.requires.few }

-- the history of a facility that was opened is that of its opening
opened_history : (core : Facility) (opening : Opening) (capacity : ℕ) → core ≡ facility_of opening capacity → core.history ≡ opened opening capacity
unfolding facility_of
opened_history core opening capacity e = ap (λ (f : Facility). f.history) e

pub returns-in-First : goal.returns-in-First
unfolding transcript_from begun_at transcript_begun
returns-in-First c = rw (c.in-First.is, ← opened_history _ _ _ c.in-Ok.ensures, ← c.prints.ensures) c.play_steps.ensures

-- a line that is neither bad nor a step is the last one
only_more : (line : ObjectLine) → (line ≡ First → ⊥) → (line ≡ Bad → ⊥) → line ≡ More
only_more More no_step not_bad = refl
only_more First no_step not_bad = absurd (no_step refl)
only_more Bad no_step not_bad = absurd (not_bad refl)

pub returns-in_default-line : goal.returns-in_default-line
unfolding transcript_from begun_at transcript_begun
returns-in_default-line c =
    rw (only_more c.args.preamble.line c.in_default-line.not-First c.in_default.not-Bad, c.end_play.ensures)
    (record { played = finished_plays _ _ _ (c.into_history.ensures ∙ opened_history _ _ _ c.in-Ok.ensures); memory = tt })
