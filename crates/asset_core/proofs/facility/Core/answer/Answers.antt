use Rattle.asset_entries.specs.Recorded.{answer_to}
use Rattle.asset_core.proofs.facility.Core.answer.Goals as goal

pub returns-clause-answer : goal.returns-clause-answer
unfolding answer_to
returns-clause-answer c = rw (← c.self.view_is) (c.answer.ensures.answer _ _ c.self.invariant.stand)
