use Rattle.asset_permits.specs.Valid.{parts_of}
use Rattle.asset_permits.proofs.SearchLemmas.{reaches_met}
use Rattle.asset_permits.proofs.TableLemmas.{forward_within, tied_inside}
use Rattle.asset_permits.proofs.table.SeatedPermits.spreads_to_opener.Goals as goal

pub spread-requires-clause-within : goal.spread-requires-clause-within
spread-requires-clause-within c =
    let inside = c.self.inside in
    let seats = c.args.seats.now in
    let tied = tied_inside inside.permits inside.marks.size c.args.self.now seats c.self.view_is c.requires.tied in
    forward_within (parts_of inside.permits seats) inside.marks.size tied c.args.covered.x.0 c.args.covered.op

pub returns-clause-reaches : goal.returns-clause-reaches
returns-clause-reaches c =
    let inside = c.self.inside in
    let seats = c.args.seats.now in
    let tied = tied_inside inside.permits inside.marks.size c.args.self.now seats c.self.view_is c.requires.tied in
    rw (← c.self.view_is)
    (reaches_met (parts_of inside.permits seats) inside.marks.size tied c.args.covered.x.0 c.args.covered.op c.laws.ensures.one c.args.giver.t c.args.giver.at c.requires.giver c.spread.new.marks.nodes c.spread.ensures.met c.met_opens.result
    c.met_opens.ensures.opens c.met_opens.ensures.closed)
