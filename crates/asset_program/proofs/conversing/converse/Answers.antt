use Rattle.std.proofs.Common.{rules}
use Rattle.asset_program.specs.Converse.{Converses}
use Rattle.asset_program.proofs.conversing.converse.Goals as goal

pub returns-in-Some : goal.returns-in-Some
unfolding Converses
returns-in-Some g c = search rules
