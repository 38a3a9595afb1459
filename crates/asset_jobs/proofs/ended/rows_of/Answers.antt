use Rattle.std.proofs.Common.{◌∙◌}
use Rattle.asset_jobs.proofs.EndedLemmas.{rows_known}
use Rattle.asset_jobs.proofs.ended.rows_of.Goals as goal

pub returns-in-Ok-Ok : goal.returns-in-Ok-Ok
returns-in-Ok-Ok c =
    let filled = rw c.in-Ok-Ok.is-1 at c.fill-filled.ensures in
    let noted = rw c.in-Ok-Ok.is-0 at c.note_ends-noted.ensures in
    filled ∙ rows_known _ c.args.ends.now c.args.names.now noted
