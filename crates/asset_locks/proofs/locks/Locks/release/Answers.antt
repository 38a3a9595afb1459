use Rattle.std.proofs.Common.{sym, subst, ◌∙◌}
use Rattle.asset_locks.specs.LockTable.{LockTable}
use Rattle.asset_locks.specs.Tied.{rows_in, SittersAreEnrolled}
use Rattle.asset_locks.proofs.EnrolledLemmas.{enrolled_less}
use Rattle.asset_locks.proofs.TableLemmas.{releases_nobody}
use Rattle.asset_locks.proofs.locks.Locks.release.Goals as goal

pub returns-in_default : goal.returns-in_default
returns-in_default c =
    let table = c.self.inside.table in
    rw (← c.self.view_is) (releases_nobody c.self.inside.seats table.pending table.order table.store c.self.invariant.0 c.laws.ensures.order c.args.t c.in_default.ensures.absent)

pub invariant_of-self : goal.invariant_of-self
invariant_of-self c =
    let inside = c.self.inside in
    let left = c.leave.new.self in
    let shown = c.release.ensures.leaves left c.leave.ensures.seats in
    (shown.0, subst (λ (rows : LockTable). SittersAreEnrolled left rows) (sym (shown.1 ∙ c.release.ensures.released)) (enrolled_less inside.seats left (rows_in inside.seats inside.table) c.in-Some.at c.args.t c.in-Some.ensures.found.0 c.self.invariant.0.single c.leave.ensures.seats c.self.invariant.1), c.release.ensures.objects ∙ c.self.invariant.2)
