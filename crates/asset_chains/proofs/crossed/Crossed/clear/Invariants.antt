use Rattle.slab.specs.Slab.{slab_len}
use Rattle.asset_chains.proofs.ClearLemmas.{IsClearing}
use Rattle.asset_chains.proofs.crossed.Crossed.clear.Given as goal

-- the first items are gone
abbrev pub invariant-first : goal.invariant-first
invariant-first g l = IsClearing l.side l.line l.initial.self l.self

abbrev pub decreases-first : goal.decreases-first
decreases-first g l = slab_len l.self.items
