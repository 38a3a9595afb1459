use Rattle.std.proofs.Common.{sym}
use Rattle.asset_deps.proofs.OutsideLemmas.{no_outside}
use Rattle.asset_deps.proofs.TableLemmas.{parts_of}
use Rattle.asset_deps.proofs.deps.Deps.has_outside_source.Goals as goal

pub returns-in_default-clause-outside : goal.returns-in_default-clause-outside
returns-in_default-clause-outside c =
    let inside = c.self.inside in
    let p = parts_of inside.table.links inside.seats in
    let size = inside.table.size in
    let marked = inside.table.marked in
    rw (← c.self.view_is) (sym (no_outside p size marked c.self.invariant c.args.t c.in_default.ensures.absent))
