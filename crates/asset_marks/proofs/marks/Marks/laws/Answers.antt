use Rattle.asset_marks.proofs.MarkLemmas.{met_within, met_once}
use Rattle.asset_marks.proofs.marks.Marks.laws.Goals as goal

pub returns-clause-within : goal.returns-clause-within
returns-clause-within c = rw (← c.self.view_is) (λ n listed. met_within c.self.inside.order.items c.self.inside.position.items c.self.inside.met n c.self.invariant listed)

pub returns-clause-once : goal.returns-clause-once
returns-clause-once c = rw (← c.self.view_is) (met_once c.self.inside.order.items c.self.inside.position.items c.self.inside.met c.self.invariant)
