use Rattle.std.proofs.Common.{◌≡◌, refl}
use Rattle.asset_scripts.specs.declared.preamble.ObjectLine.{ObjectLine}
use Rattle.asset_scripts.specs.declared.preamble.ObjectLine.TheVariants.{More, First, Bad}
use Rattle.asset_scripts.specs.Preamble.{begun_at}
use Rattle.asset_standing.specs.Standing.{left_begun}
use Rattle.asset_standing.specs.Stood.{stood_of, stood_at}
use Rattle.asset_standing.proofs.standing.stand_from.Goals as goal

pub returns-in-Bad-clause-stood : goal.returns-in-Bad-clause-stood
unfolding left_begun begun_at stood_of stood_at
returns-in-Bad-clause-stood c = rw c.in-Bad.is refl

pub returns-in-First : goal.returns-in-First
unfolding left_begun begun_at
returns-in-First c = rw (c.in-First.is, ← c.in-Ok.ensures) c.stand_over.ensures

-- a line that is neither bad nor a step is the last one
only_more : (line : ObjectLine) → (line ≡ First → ⊥) → (line ≡ Bad → ⊥) → line ≡ More
only_more More no_step not_bad = refl
only_more First no_step not_bad = absurd (no_step refl)
only_more Bad no_step not_bad = absurd (not_bad refl)

pub returns-in_default-line : goal.returns-in_default-line
unfolding left_begun begun_at stood_of stood_at
returns-in_default-line c = rw (only_more c.args.preamble.line c.in_default-line.not-First c.in_default.not-Bad, ← c.in-Ok.ensures) (record { stood = refl; memory = tt })
