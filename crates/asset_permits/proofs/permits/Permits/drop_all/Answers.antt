use Rattle.asset_permits.specs.Descriptors.{Descriptor, stands, one_covers, same_descriptor, lets}
use Rattle.asset_permits.specs.Valid.{parts_of}
use Rattle.asset_permits.proofs.SlotLemmas.{any_dropped, same_owned, same_to, lets_owned, lets_to}
use Rattle.asset_permits.proofs.TableLemmas.{rid_of_nobody}
use Rattle.asset_permits.proofs.OpenLemmas.{opens_kept}
use Rattle.asset_permits.proofs.permits.Permits.drop_all.Goals as goal

pub returns-in_default-clause-stands : goal.returns-in_default-clause-stands
unfolding stands
returns-in_default-clause-stands c = λ e.
    let inside = c.self.inside in
    let items = inside.table.permits.items in
    rw (← c.self.view_is)
    (any_dropped (λ (k : Descriptor). same_descriptor k e) c.args.t.0 e.giver e.taker items items (same_owned e) (same_to e)
    (rid_of_nobody (parts_of inside.table.permits inside.seats) inside.table.size c.args.t c.self.invariant.0 c.in_default.ensures.absent))

pub returns-in_default-clause-covers : goal.returns-in_default-clause-covers
unfolding one_covers
returns-in_default-clause-covers c = λ u v x op.
    let inside = c.self.inside in
    let items = inside.table.permits.items in
    rw (← c.self.view_is)
    (any_dropped (lets u v x op) c.args.t.0 u v items items (lets_owned u v x op) (lets_to u v x op)
    (rid_of_nobody (parts_of inside.table.permits inside.seats) inside.table.size c.args.t c.self.invariant.0 c.in_default.ensures.absent))

pub returns-in_default-clause-opens : goal.returns-in_default-clause-opens
returns-in_default-clause-opens c = λ u x op.
    let inside = c.self.inside in
    rw (← c.self.view_is)
    (opens_kept inside.table.permits c.args.t.0 (rid_of_nobody (parts_of inside.table.permits inside.seats) inside.table.size c.args.t c.self.invariant.0 c.in_default.ensures.absent) u x op)
