use Rattle.std.proofs.Common.{◌∙◌}
use Rattle.asset_ends.proofs.WaitLemmas.{if_ok_as, blocker_shown}
use Rattle.asset_ends.proofs.tables.Tables.blockers.Goals as goal

pub returns-clause-shown : goal.returns-clause-shown
returns-clause-shown c =
    rw (← c.self.view_is)
    (if_ok_as c.blockers.result (λ found named opening steps stand u. named u ∙ blocker_shown opening steps _ _ _ _ _ c.args.t.0 c.args.x.0 c.args.op u stand) c.blockers.ensures.named)
