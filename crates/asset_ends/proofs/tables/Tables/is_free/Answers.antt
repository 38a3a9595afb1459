use Rattle.std.proofs.Common.{◌∙◌}
use Rattle.asset_ends.specs.Standing.{is_free_for}
use Rattle.asset_ends.proofs.ShowsLemmas.{free_shown, allows_shown}
use Rattle.asset_ends.proofs.tables.Tables.is_free.Goals as goal

pub returns-clause-free : goal.returns-clause-free
unfolding is_free_for
returns-clause-free c = rw (← c.self.view_is) c.is_free.ensures.free

pub returns-clause-shown : goal.returns-clause-shown
returns-clause-shown c = rw (← c.self.view_is) (λ opening steps stand. c.is_free.ensures.free ∙ free_shown opening steps _ _ _ _ _ c.args.t.0 c.args.x.0 c.args.op stand)

pub returns-clause-allowed : goal.returns-clause-allowed
returns-clause-allowed c = λ opening steps stand u v y o. allows_shown opening steps _ _ _ _ _ u v y o stand
