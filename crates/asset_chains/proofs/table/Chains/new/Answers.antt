use Rattle.std.proofs.Common.{[], refl, arith}
use Rattle.asset_chains.specs.Linked.{seen}
use Rattle.asset_chains.proofs.StoreLemmas.{stores_nothing, valid_from}
use Rattle.asset_chains.proofs.table.Chains.new.Goals as goal

pub invariant_of-result : goal.invariant_of-result
invariant_of-result c =
    rw (c.new.ensures.items, c.new-2.ensures.items)
    (valid_from [] [] (seen [] []) (stores_nothing (seen [] []) refl refl) (omega arith) (omega arith))
