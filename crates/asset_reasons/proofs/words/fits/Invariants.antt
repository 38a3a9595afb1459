-- The operands and the words fit if those that are left do.
use Rattle.std.proofs.Common.{◌≡◌, length}
use Rattle.asset_reasons.specs.Mistakes.{fits}
use Rattle.asset_reasons.proofs.words.fits.Given as goal

abbrev pub invariant-operands : goal.invariant-operands
invariant-operands l = fits l.operands l.fn.words ≡ fits l.rest l.words

abbrev pub decreases-operands : goal.decreases-operands
decreases-operands l = length l.rest
