use Rattle.std.proofs.Common.{sym, ◌∙◌}
use Rattle.asset_permits.proofs.DropLemmas.{leaves_unused, keeps_used}
use Rattle.asset_permits.proofs.seating.leave_if_unused.Goals as goal

pub returns-then-not-is_used : goal.returns-then-not-is_used
returns-then-not-is_used c =
    leaves_unused c.args.permits.now.rows c.args.permits.now.columns c.args.c c.args.seats.now c.leave.new.self (sym c.is_used.ensures ∙ c.if-not-is_used.true) c.leave.ensures.seats

pub returns-else-not-is_used : goal.returns-else-not-is_used
returns-else-not-is_used c = keeps_used c.args.permits.now.rows c.args.permits.now.columns c.args.c c.args.seats.now (sym c.is_used.ensures ∙ c.if-not-is_used.false)
