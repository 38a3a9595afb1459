use Rattle.asset_chains.proofs.SlotLemmas.{is_crossed, few_lines, short_lines}
use Rattle.asset_chains.proofs.crossed.Crossed.laws.Goals as goal

pub returns-clause-crossed : goal.returns-clause-crossed
returns-clause-crossed g c = rw (← c.self.view_is) (is_crossed c.self.inside.slots c.self.inside.rows.items c.self.inside.columns.items c.self.invariant)

pub returns-clause-few : goal.returns-clause-few
returns-clause-few g c = rw (← c.self.view_is) (few_lines c.self.inside.slots c.self.inside.rows.items c.self.inside.columns.items c.self.invariant)

pub returns-clause-short : goal.returns-clause-short
returns-clause-short g c = rw (← c.self.view_is) (short_lines c.self.inside.slots c.self.inside.rows.items c.self.inside.columns.items c.self.invariant)
