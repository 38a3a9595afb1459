use Rattle.std.proofs.Common.{rules}
use Rattle.asset_reasons.specs.Mistakes.{fits}
use Rattle.asset_reasons.proofs.words.fits.Goals as goal

pub returns-in-None : goal.returns-in-None
unfolding fits
returns-in-None c = search rules
