-- What a text that is made of a script has to do with its transcript.
use Rattle.std.specs.Prelude.{◌≡◌, ℕ, List, ◌++◌, Option, None, Some}
use Rattle.asset_scripts.specs.declared.ends.RunEnd.{RunEnd}
use Rattle.asset_scripts.specs.declared.ends.RunEnd.TheVariants.{Finished, BadLine}
use Rattle.asset_scripts.specs.Transcript.{Transcript}

-- how a run ends, by the number of the bad line at which it does, if there is one
unfoldable pub end_at : Option ℕ → RunEnd
end_at None = Finished
end_at (Some n) = BadLine n

-- the text after is the text before with all of the transcript, which ends so
pub record Renders (before : List ℕ) (all : Transcript) (after : List ℕ) (end : RunEnd) : Type 0 where
  pub text : after ≡ before ++ all.text
  pub ends : end ≡ all.end
