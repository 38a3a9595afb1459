-- What is left is gathered after what was.
use Rattle.std.proofs.Common.{◌≡◌, [], length}
use Rattle.asset_grammar.specs.Sets.{gathered}
use Rattle.asset_reasons.proofs.operands.objects_of.Given as goal

abbrev pub invariant-parts : goal.invariant-parts
invariant-parts l = gathered [] l.fn.parts ≡ gathered l.objects.items l.parts

abbrev pub decreases-parts : goal.decreases-parts
decreases-parts l = length l.parts
