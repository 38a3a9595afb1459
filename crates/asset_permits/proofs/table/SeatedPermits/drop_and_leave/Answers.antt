use Rattle.std.proofs.Common.{◌∙◌}
use Rattle.asset_permits.specs.Descriptors.{Descriptor, stands, one_covers, same_descriptor, lets}
use Rattle.asset_permits.proofs.SlotLemmas.{any_dropped, same_owned, same_to, lets_owned, lets_to}
use Rattle.asset_permits.proofs.DropLemmas.{shrinks_then, valid_after, valid_left}
use Rattle.asset_permits.proofs.TableLemmas.{rid_of, tied_inside}
use Rattle.asset_permits.proofs.OpenLemmas.{opens_dropped}
use Rattle.asset_permits.proofs.table.SeatedPermits.drop_and_leave.Goals as goal

pub returns-clause-tied : goal.returns-clause-tied
returns-clause-tied c =
    let inside = c.self.inside in
    let first = c.drop_along.new in
    let second = c.drop_along-2.new in
    let tied = tied_inside inside.permits inside.marks.size c.args.self.now c.args.seats.now c.self.view_is c.requires.tied in
    valid_left second.permits c.args.seats.now second.seats inside.marks.size
    (valid_after inside.permits second.permits c.args.seats.now inside.marks.size tied (shrinks_then inside.permits first.permits second.permits c.drop_along.ensures.shrinks c.drop_along-2.ensures.shrinks) c.laws-2.ensures.crossed)
    (λ d t sat. c.drop_along.ensures.left d t (c.drop_along-2.ensures.left d t sat)) (λ d is. c.drop_along-2.ensures.used d ∙ is) c.laws-2.ensures.crossed

pub returns-clause-stands : goal.returns-clause-stands
unfolding stands
returns-clause-stands c = λ e.
    let inside = c.self.inside in
    let first = c.drop_along.new.permits in
    let second = c.drop_along-2.new.permits in
    let tied = tied_inside inside.permits inside.marks.size c.args.self.now c.args.seats.now c.self.view_is c.requires.tied in
    rw (← c.self.view_is)
    (any_dropped (λ (k : Descriptor). same_descriptor k e) c.args.t.t.0 e.giver e.taker inside.permits.items second.items (same_owned e) (same_to e)
    (rid_of inside.permits first second c.args.seats.now inside.marks.size c.args.t.t c.args.t.at tied c.requires.sits (λ d other. c.laws.ensures.one c.args.t.t c.args.t.at d c.requires.sits other)
    c.drop_along.ensures.shrinks c.drop_along.ensures.gone c.drop_along.ensures.kept c.drop_along-2.ensures.shrinks c.laws-2.ensures.crossed c.drop_along-2.ensures.gone c.drop_along-2.ensures.kept))

pub returns-clause-covers : goal.returns-clause-covers
unfolding one_covers
returns-clause-covers c = λ u v x op.
    let inside = c.self.inside in
    let first = c.drop_along.new.permits in
    let second = c.drop_along-2.new.permits in
    let tied = tied_inside inside.permits inside.marks.size c.args.self.now c.args.seats.now c.self.view_is c.requires.tied in
    rw (← c.self.view_is)
    (any_dropped (lets u v x op) c.args.t.t.0 u v inside.permits.items second.items (lets_owned u v x op) (lets_to u v x op)
    (rid_of inside.permits first second c.args.seats.now inside.marks.size c.args.t.t c.args.t.at tied c.requires.sits (λ d other. c.laws.ensures.one c.args.t.t c.args.t.at d c.requires.sits other)
    c.drop_along.ensures.shrinks c.drop_along.ensures.gone c.drop_along.ensures.kept c.drop_along-2.ensures.shrinks c.laws-2.ensures.crossed c.drop_along-2.ensures.gone c.drop_along-2.ensures.kept))

pub returns-clause-opens : goal.returns-clause-opens
returns-clause-opens c = λ u x op.
    let inside = c.self.inside in
    let first = c.drop_along.new.permits in
    let second = c.drop_along-2.new.permits in
    let tied = tied_inside inside.permits inside.marks.size c.args.self.now c.args.seats.now c.self.view_is c.requires.tied in
    let rid = rid_of inside.permits first second c.args.seats.now inside.marks.size c.args.t.t c.args.t.at tied c.requires.sits (λ d other. c.laws.ensures.one c.args.t.t c.args.t.at d c.requires.sits other)
    c.drop_along.ensures.shrinks c.drop_along.ensures.gone c.drop_along.ensures.kept c.drop_along-2.ensures.shrinks c.laws-2.ensures.crossed c.drop_along-2.ensures.gone c.drop_along-2.ensures.kept
    in
    rw (← c.self.view_is) (opens_dropped inside.may_open inside.permits second c.args.t.t.0 c.self.invariant.1 rid u x op)
