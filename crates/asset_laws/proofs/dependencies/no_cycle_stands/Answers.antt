use Rattle.asset_laws.proofs.CycleLemmas.{acyclic_always}
use Rattle.asset_laws.proofs.dependencies.no_cycle_stands.Goals as goal

pub returns : goal.returns
returns c = λ opening entries legal. acyclic_always opening entries legal
