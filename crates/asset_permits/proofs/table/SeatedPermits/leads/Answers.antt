use Rattle.std.proofs.Common.{◌∙◌}
use Rattle.asset_marks.proofs.KeyedLemmas.{linked_backwards}
use Rattle.asset_permits.specs.Descriptors.{covers}
use Rattle.asset_permits.specs.Valid.{parts_of}
use Rattle.asset_permits.proofs.SearchLemmas.{linked_leads}
use Rattle.asset_permits.proofs.TableLemmas.{backward_within, forward_within, tied_inside}
use Rattle.asset_permits.proofs.table.SeatedPermits.leads.Goals as goal

pub is_linked-requires-clause-within : goal.is_linked-requires-clause-within
is_linked-requires-clause-within c =
    let inside = c.self.inside in
    let seats = c.args.seats.now in
    let tied = tied_inside inside.permits inside.marks.size c.args.self.now seats c.self.view_is c.requires.tied in
    forward_within (parts_of inside.permits seats) inside.marks.size tied c.args.x.0 c.args.op

pub is_linked-requires-else-len-clause-within : goal.is_linked-requires-else-len-clause-within
is_linked-requires-else-len-clause-within c =
    let inside = c.self.inside in
    let seats = c.args.seats.now in
    let tied = tied_inside inside.permits inside.marks.size c.args.self.now seats c.self.view_is c.requires.tied in
    backward_within (parts_of inside.permits seats) inside.marks.size tied c.args.x.0 c.args.op

pub returns-then-len-clause-leads : goal.returns-then-len-clause-leads
returns-then-len-clause-leads c =
    let inside = c.self.inside in
    let seats = c.args.seats.now in
    let tied = tied_inside inside.permits inside.marks.size c.args.self.now seats c.self.view_is c.requires.tied in
    rw (← c.self.view_is)
    (c.is_linked.ensures.is_linked
    ∙ linked_leads (parts_of inside.permits seats) inside.marks.size tied c.args.x.0 c.args.op c.laws.ensures.one c.args.giver.t c.args.taker.t c.args.giver.at c.args.taker.at c.requires.giver c.requires.taker)

pub returns-else-len-clause-leads : goal.returns-else-len-clause-leads
returns-else-len-clause-leads c =
    let inside = c.self.inside in
    let seats = c.args.seats.now in
    let tied = tied_inside inside.permits inside.marks.size c.args.self.now seats c.self.view_is c.requires.tied in
    rw (← c.self.view_is)
    (c.is_linked-else-len.ensures.is_linked
    ∙ linked_backwards (covers c.args.x.0 c.args.op) inside.permits.items inside.permits.rows inside.permits.columns c.args.giver.at c.args.taker.at
    ∙ linked_leads (parts_of inside.permits seats) inside.marks.size tied c.args.x.0 c.args.op c.laws.ensures.one c.args.giver.t c.args.taker.t c.args.giver.at c.args.taker.at c.requires.giver c.requires.taker)
