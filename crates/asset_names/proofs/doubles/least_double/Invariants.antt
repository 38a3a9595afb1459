use Rattle.std.proofs.Common.{take, map}
use Rattle.asset_names.proofs.DoubleLemmas.{LeastAmong}
use Rattle.asset_names.proofs.doubles.least_double.Given as goal

-- what was found is the least double of those that were seen
abbrev pub invariant-items : goal.invariant-items
invariant-items g l = LeastAmong (map g.I.NamesObject.object_of l.items) (map g.I.NamesObject.object_of (take l.item-index l.items)) l.found
