use Rattle.asset_deps.proofs.TableLemmas.{valid_nothing, nothing_stands}
use Rattle.asset_deps.proofs.table.SeatedDeps.new.Goals as goal

pub returns-clause-dependencies : goal.returns-clause-dependencies
returns-clause-dependencies c = nothing_stands _ c.new.ensures.items

pub returns-clause-tied : goal.returns-clause-tied
returns-clause-tied c = λ seats nobody. search (c.new-3.ensures.nodes, valid_nothing c.new.result seats c.new-2.result.size c.new-3.result c.new.ensures.items c.new.ensures.crossed nobody)

pub returns-clause-marked : goal.returns-clause-marked
returns-clause-marked c = search c.new-3.ensures.nodes
