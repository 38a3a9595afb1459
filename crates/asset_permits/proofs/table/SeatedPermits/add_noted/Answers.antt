use Rattle.std.proofs.Common.{rules}
use Rattle.asset_permits.proofs.SlotLemmas.{stands_again}
use Rattle.asset_permits.proofs.table.SeatedPermits.add_noted.Goals as goal

pub returns-then-has-clause-stands : goal.returns-then-has-clause-stands
returns-then-has-clause-stands c = search (rules, stands_again)
