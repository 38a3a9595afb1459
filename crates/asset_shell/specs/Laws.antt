-- What a conversation has to do with a run.
use Rattle.std.specs.Prelude.{◌≡◌, ℕ, List, [], ◌++◌}
use Rattle.asset_scripts.specs.declared.ends.RunEnd.TheVariants.{Finished}
use Rattle.asset_scripts.specs.Transcript.{transcript}
use Rattle.asset_shell.specs.Shelled.{complete, shell_text}
use Rattle.asset_scripts.specs.declared.prints.Prints.TheVariants.{Replies}

-- a conversation prints what a run prints, and goes on after a bad line; without a bad line it prints nothing else
pub record PrintsAsRun (bytes : List ℕ) (capacity : ℕ) : Type 0 where
  pub more : List ℕ
  pub text : shell_text bytes capacity ≡ (transcript Replies bytes capacity).text ++ more
  pub same : (transcript Replies bytes capacity).end ≡ Finished → more ≡ []

-- what was said of the complete lines of some bytes stays when further bytes come
pub record StaysSaid (bytes more : List ℕ) (capacity : ℕ) : Type 0 where
  pub later : List ℕ
  pub text : shell_text (complete (bytes ++ more)) capacity ≡ shell_text (complete bytes) capacity ++ later
