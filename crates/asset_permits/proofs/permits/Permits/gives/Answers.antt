use Rattle.std.proofs.Common.{◌≡◌, false, sym}
use Rattle.asset_permits.specs.Descriptors.{gives}
use Rattle.asset_permits.specs.Valid.{parts_of, permits_in}
use Rattle.asset_permits.proofs.GivingLemmas.{gives_by_nobody}
use Rattle.asset_permits.proofs.permits.Permits.gives.Goals as goal

pub returns-in-None : goal.returns-in-None
returns-in-None c =
    let inside = c.self.inside in
    let nothing : false ≡ gives c.args.giver.0 (permits_in inside.table) = sym (gives_by_nobody (parts_of inside.table.permits inside.seats) inside.table.size c.self.invariant.0 c.args.giver c.in-None.ensures.absent) in
    rw (← c.self.view_is) (search nothing)
