use Rattle.std.proofs.Common.{[]}
use Rattle.asset_chains.proofs.SlotLemmas.{are_nothing, is_crossed}
use Rattle.asset_chains.proofs.crossed.Crossed.new.Goals as goal

pub invariant_of-result : goal.invariant_of-result
invariant_of-result g c = rw (c.new-2.ensures.items, c.new-3.ensures.items) (are_nothing c.new.result c.new.ensures.empty)

pub returns-clause-crossed : goal.returns-clause-crossed
returns-clause-crossed g c = rw (c.new-2.ensures.items, c.new-3.ensures.items) (is_crossed c.new.result [] [] (are_nothing c.new.result c.new.ensures.empty))
