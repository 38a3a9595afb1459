use Rattle.asset_permits.specs.Valid.{descriptors_of}
use Rattle.std.proofs.Common.{◌≡◌, []}
use Rattle.asset_permits.proofs.TableLemmas.{valid_nothing, nothing_stands, unused_nothing}
use Rattle.asset_permits.proofs.table.SeatedPermits.new.Goals as goal

pub returns-clause-permits : goal.returns-clause-permits
returns-clause-permits c = let none : descriptors_of c.new.result.items ≡ [] = nothing_stands c.new.result.items c.new.ensures.items in search none

pub returns-clause-used : goal.returns-clause-used
returns-clause-used c = unused_nothing c.new.result c.new.ensures.rows c.new.ensures.columns

pub returns-clause-tied : goal.returns-clause-tied
returns-clause-tied c = λ seats nobody. valid_nothing _ seats _ c.new.ensures.items c.new.ensures.crossed nobody
