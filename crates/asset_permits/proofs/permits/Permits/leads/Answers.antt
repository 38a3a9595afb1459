use Rattle.std.proofs.Common.{sym, rules, ◌∙◌}
use Rattle.asset_permits.specs.Valid.{parts_of}
use Rattle.asset_permits.proofs.SearchLemmas.{gives_nothing, takes_nothing}
use Rattle.asset_permits.proofs.permits.Permits.leads.Goals as goal

pub returns-in_default-clause-leads : goal.returns-in_default-clause-leads
returns-in_default-clause-leads c =
    let inside = c.self.inside in
    rw (← c.self.view_is) (sym (gives_nothing (parts_of inside.table.permits inside.seats) inside.table.size c.self.invariant.0 c.args.x.0 c.args.op c.args.giver c.args.taker c.in_default.ensures.absent c.requires))

pub returns-in_default-seat_of-clause-leads : goal.returns-in_default-seat_of-clause-leads
returns-in_default-seat_of-clause-leads c =
    let inside = c.self.inside in
    rw (← c.self.view_is) (c.reaches_opener.ensures.reaches ∙ sym (takes_nothing (parts_of inside.table.permits inside.seats) inside.table.size c.self.invariant.0 c.args.x.0 c.args.op c.args.giver c.args.taker c.in_default-seat_of.ensures.absent c.requires))

pub returns-clause-leads : goal.returns-clause-leads
returns-clause-leads c = search rules
