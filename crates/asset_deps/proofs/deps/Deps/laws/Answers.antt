use Rattle.asset_deps.proofs.SeatLemmas.{marked_enrolled, marked_once}
use Rattle.asset_deps.proofs.LinkLemmas.{are_different}
use Rattle.asset_deps.proofs.TableLemmas.{parts_of, ends_enrolled}
use Rattle.asset_deps.proofs.deps.Deps.laws.Goals as goal

pub returns-clause-enrolled : goal.returns-clause-enrolled
returns-clause-enrolled c =
    let inside = c.self.inside in
    let p = parts_of inside.table.links inside.seats in
    let size = inside.table.size in
    let marked = inside.table.marked in
    rw (← c.self.view_is) (λ k u v arrow. ends_enrolled p size marked c.self.invariant k u v arrow)

pub returns-clause-marked : goal.returns-clause-marked
returns-clause-marked c = let inside = c.self.inside in rw (← c.self.view_is) (λ n listed. marked_enrolled inside.seats inside.table.marked.nodes n c.self.invariant.taken listed)

pub returns-clause-once : goal.returns-clause-once
returns-clause-once c = let inside = c.self.inside in rw (← c.self.view_is) (marked_once inside.seats inside.table.marked.nodes c.self.invariant.taken c.laws.ensures.one c.laws-2.ensures)

pub returns-clause-different : goal.returns-clause-different
returns-clause-different c = let inside = c.self.inside in rw (← c.self.view_is) (are_different inside.table.links.items c.self.invariant.single)
