use Rattle.std.proofs.Common.{◌∙◌}
use Rattle.asset_ends.proofs.EndingLemmas.{may_commit_shown}
use Rattle.asset_ends.proofs.tables.Tables.may_commit.Goals as goal

pub returns-clause-may : goal.returns-clause-may
returns-clause-may c = rw c.find-status.ensures.name at c.may_commit_at.ensures.may

pub returns-clause-shown : goal.returns-clause-shown
returns-clause-shown c = λ opening steps stand. returns-clause-may c ∙ may_commit_shown opening steps _ c.args.t.0 stand
