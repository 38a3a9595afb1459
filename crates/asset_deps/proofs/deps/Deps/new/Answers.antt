use Rattle.asset_deps.proofs.TableLemmas.{new_is}
use Rattle.asset_deps.proofs.deps.Deps.new.Goals as goal

pub invariant_of-result : goal.invariant_of-result
invariant_of-result c = c.new-2.ensures.tied _ c.new.ensures.seats

pub returns : goal.returns
returns c = new_is c.new.result c.new-2.result c.new.ensures.slots c.new-2.ensures.dependencies c.new-2.ensures.marked
