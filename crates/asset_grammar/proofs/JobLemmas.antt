-- What the words of the act that gives up say.
use Rattle.std.proofs.Common.{◌≡◌, ℕ, Bool, true, false, not, List, [], ◌∷◌, Option, None, Some, refl}
use Rattle.std.specs.Prelude.{cond, codes}
use Rattle.std.specs.Str.{bytes_eq}
use Rattle.asset_grammar.specs.declared.job_lines.JobAct.{JobAct}
use Rattle.asset_grammar.specs.declared.job_lines.JobAct.TheVariants.{GiveUp}
use Rattle.asset_grammar.specs.JobLines.{give_up}
use Rattle.asset_grammar.specs.Words.{none_left}

pub gives_up : (words rest : List (List ℕ)) (word : List ℕ) → words ≡ word ∷ rest → rest ≡ [] → not (bytes_eq word (codes "up")) ≡ false → give_up words ≡ Some GiveUp
unfolding give_up
gives_up words rest word is gone up = rw (is, gone) (go (bytes_eq word (codes "up")) up) where
  go : (same : Bool) → not same ≡ false → cond {A = Option JobAct} same (Some GiveUp) None ≡ Some GiveUp
  go true up = refl
  go false up = absurd (cc)

-- it does not go on after that
pub gives_up_alone : (words rest : List (List ℕ)) (word : List ℕ) → words ≡ word ∷ rest → false ≡ none_left rest → give_up words ≡ None
unfolding give_up none_left
gives_up_alone words [] word is more = absurd (cc)
gives_up_alone words (next ∷ rest) word is more = rw is refl
