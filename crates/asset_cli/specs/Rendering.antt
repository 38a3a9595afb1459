-- How a text grows towards a transcript, and what is left when it ends.
use Rattle.std.specs.Prelude.{◌≡◌, ℕ, List, ◌++◌, Option, None, Some}
use Rattle.asset_entries.specs.Recorded.{Recorded}
use Rattle.asset_scripts.specs.declared.ends.RunEnd.{RunEnd}
use Rattle.asset_scripts.specs.declared.ends.RunEnd.TheVariants as RunEnd'
use Rattle.asset_scripts.specs.Transcript.{Transcript}
use Rattle.asset_cli.specs.declared.rendering.Played.{Played}
use Rattle.asset_cli.specs.declared.rendering.Played.TheVariants as Played'

-- the text after, with the rest of the transcript, is the text before with all of it
pub record RendersOn (before : List ℕ) (all : Transcript) (after : List ℕ) (rest : Transcript) : Type 0 where
  pub text : before ++ all.text ≡ after ++ rest.text
  pub end : all.end ≡ rest.end
  pub history : all.history ≡ rest.history

-- what is left when the steps end: the history, or only the number of the bad line if there is one
unfoldable pub played_of : Recorded → Option ℕ → Played
played_of history None = Played'.Finished history
played_of history (Some n) = Played'.BadLine n

-- how a run ends, by what is left of it
unfoldable pub played_end : Played → RunEnd
played_end (Played'.Finished history) = RunEnd'.Finished
played_end (Played'.BadLine n) = RunEnd'.BadLine n

-- the text after is the text before with all of the transcript, which ends so, and leaves this history
pub record RendersToEnd (before : List ℕ) (all : Transcript) (after : List ℕ) (end : RunEnd) (left : Recorded) : Type 0 where
  pub text : after ≡ before ++ all.text
  pub ends : end ≡ all.end
  pub history : left ≡ all.history

-- what was played is what the transcript leaves: how it ends, and its history, unless a line is bad
unfoldable pub IsLeftBy : Transcript → Played → Type 0
IsLeftBy all (Played'.Finished history) = (all.end ≡ RunEnd'.Finished) × (history ≡ all.history)
IsLeftBy all (Played'.BadLine n) = all.end ≡ RunEnd'.BadLine n

-- the text after is the text before with all of the transcript, and what was played is what it leaves
pub record Plays (before : List ℕ) (all : Transcript) (after : List ℕ) (played : Played) : Type 0 where
  pub text : after ≡ before ++ all.text
  pub left : IsLeftBy all played
