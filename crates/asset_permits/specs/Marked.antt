-- Marks on all who allow one transaction to do an operation on an object.
use Rattle.std.specs.Prelude.{◌≡◌, ℕ, List, Option, Some, None}
use Rattle.asset_names.specs.Arrows.{Arrow, lists, linked}
use Rattle.asset_chains.specs.Crossed.{Crossed}
use Rattle.asset_marks.specs.Searched.{arrows_along}
use Rattle.asset_permits.specs.declared.search.Covered.{Covered}
use Rattle.asset_permits.specs.declared.allowers.Question.{Question}
use Rattle.asset_permits.specs.Descriptors.{Descriptor, covers}

-- the arrows from takers back to givers, of the permits that cover an operation on an object
abbrev pub arrows_back : Covered → Crossed Descriptor → List Arrow
arrows_back covered permits = arrows_along (covers covered.x.0 covered.op) permits.items permits.columns permits.rows

-- the marks, if they stand for a question, are on exactly the seats to which those arrows lead from the one who is allowed
abbrev pub HasMarked : Crossed Descriptor → List ℕ → Option Question → Type 0
HasMarked permits nodes None = Unit {0}
HasMarked permits nodes (Some question) = (n : ℕ) → lists nodes n ≡ linked (arrows_back question.covered permits) question.taker n
