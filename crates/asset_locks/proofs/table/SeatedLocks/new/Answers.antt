use Rattle.asset_locks.proofs.TableLemmas.{seated_nothing, no_rows}
use Rattle.asset_locks.proofs.table.SeatedLocks.new.Goals as goal

pub returns-clause-rows : goal.returns-clause-rows
returns-clause-rows c = λ seats. no_rows seats c.new.result.items c.new-2.result c.new-3.result c.new-2.ensures.chains

pub returns-clause-tied : goal.returns-clause-tied
returns-clause-tied c = λ seats nobody. seated_nothing seats _ _ _ nobody c.new-2.ensures.homes c.new-3.ensures.homes
