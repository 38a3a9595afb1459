use Rattle.std.proofs.Common.{◌∙◌}
use Rattle.asset_deps.proofs.SeatLemmas.{marked_is}
use Rattle.asset_deps.proofs.TableLemmas.{tied_inside}
use Rattle.asset_deps.proofs.table.SeatedDeps.is_doomed.Goals as goal

pub returns : goal.returns
returns c =
    let inside = c.self.inside in
    let seats = c.args.seats.now in
    let tied = tied_inside inside.links inside.marks.size inside.marked c.args.self.now seats c.self.view_is c.requires.tied in
    let u = c.args.u in
    rw (← c.self.view_is) (c.has.ensures ∙ marked_is seats inside.marked.nodes u.at u.t tied.taken c.requires.sits (λ d other. c.laws.ensures.one u.t u.at d c.requires.sits other))
