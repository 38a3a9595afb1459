use Rattle.std.proofs.Common.{ap, ◌∙◌, is_some}
use Rattle.asset_chains.specs.declared.side.Side.TheVariants.{Row}
use Rattle.asset_permits.specs.Valid.{parts_of}
use Rattle.asset_permits.proofs.GivingLemmas.{gives_by_seat}
use Rattle.asset_permits.proofs.TableLemmas.{tied_inside}
use Rattle.asset_permits.proofs.table.SeatedPermits.gives.Goals as goal

pub returns : goal.returns
returns c =
    let inside = c.self.inside in
    let seats = c.args.seats.now in
    let tied = tied_inside inside.permits inside.marks.size c.args.self.now seats c.self.view_is c.requires.tied in
    rw (← c.self.view_is) (c.is_some.ensures ∙ ap is_some c.first.ensures
    ∙ gives_by_seat (parts_of inside.permits seats) inside.marks.size tied (c.laws-2.ensures.crossed.sound Row) c.args.giver.t c.args.giver.at c.requires.giver (λ d other. c.laws.ensures.one c.args.giver.t c.args.giver.at d c.requires.giver other))
