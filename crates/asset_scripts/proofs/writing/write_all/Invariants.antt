-- What is left of the text is what was not yet taken, and what was taken was appended.
use Rattle.std.proofs.Common.{◌≡◌, ℕ, List, ◌++◌, length}
use Rattle.std.specs.Io.KnownBytes.{Appends}
use Rattle.asset_scripts.proofs.writing.write_all.Given as goal

abbrev pub invariant-offers : goal.invariant-offers
invariant-offers g l = record {
  split : (prefix : List ℕ) × (l.initial.rest ≡ prefix ++ l.rest) × Appends (g.W.Write.contents l.initial.output.inner) (g.W.Write.contents l.output.inner) prefix;
  failed : l.output.failed ≡ l.initial.output.failed;
}

abbrev pub decreases-offers : goal.decreases-offers
decreases-offers g l = length l.rest
