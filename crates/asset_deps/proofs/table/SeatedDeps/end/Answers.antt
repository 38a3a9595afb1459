use Rattle.asset_chains.specs.declared.side.Side.TheVariants.{Row, Column}
use Rattle.asset_chains.proofs.ClearLemmas.{cleared}
use Rattle.asset_deps.proofs.TableLemmas.{tied_inside, valid_ended, valid_left, arrow_ended, marked_ended, unmarked_ended}
use Rattle.asset_deps.proofs.table.SeatedDeps.end.Goals as goal

pub returns-clause-tied : goal.returns-clause-tied
returns-clause-tied c =
    let inside = c.self.inside in
    let seats = c.args.seats.now in
    let tied = tied_inside inside.links inside.marks.size inside.marked c.args.self.now seats c.self.view_is c.requires.tied in
    let t = c.args.t in
    let mid = c.clear.new.self in
    let new = c.clear-2.new.self in
    valid_ended inside.links mid new seats inside.marks.size inside.marked c.forget.new.self t.t t.at tied c.requires.sits (λ d other. c.laws.ensures.one t.t t.at d c.requires.sits other)
    (cleared Row t.at inside.links mid c.laws-2.ensures.crossed c.clear.ensures) (cleared Column t.at mid new c.laws-3.ensures.crossed c.clear-2.ensures) c.laws-4.ensures.crossed c.forget.ensures.nodes c.forget.ensures.size

pub returns-clause-leaves : goal.returns-clause-leaves
returns-clause-leaves c =
    let inside = c.self.inside in
    let seats = c.args.seats.now in
    let tied = tied_inside inside.links inside.marks.size inside.marked c.args.self.now seats c.self.view_is c.requires.tied in
    let t = c.args.t in
    let mid = c.clear.new.self in
    let new = c.clear-2.new.self in
    valid_left inside.links mid new seats inside.marks.size inside.marked c.forget.new.self t.t t.at tied c.requires.sits (λ d other. c.laws.ensures.one t.t t.at d c.requires.sits other)
    (cleared Row t.at inside.links mid c.laws-2.ensures.crossed c.clear.ensures) (cleared Column t.at mid new c.laws-3.ensures.crossed c.clear-2.ensures) c.laws-4.ensures.crossed c.forget.ensures.nodes c.forget.ensures.size

pub returns-clause-dependencies : goal.returns-clause-dependencies
returns-clause-dependencies c =
    let inside = c.self.inside in
    let seats = c.args.seats.now in
    let tied = tied_inside inside.links inside.marks.size inside.marked c.args.self.now seats c.self.view_is c.requires.tied in
    let t = c.args.t in
    let mid = c.clear.new.self in
    let new = c.clear-2.new.self in
    rw (← c.self.view_is)
    (arrow_ended inside.links mid new seats inside.marks.size inside.marked c.forget.new.self t.t t.at tied c.requires.sits (λ d other. c.laws.ensures.one t.t t.at d c.requires.sits other)
    (cleared Row t.at inside.links mid c.laws-2.ensures.crossed c.clear.ensures) (cleared Column t.at mid new c.laws-3.ensures.crossed c.clear-2.ensures) c.laws-4.ensures.crossed c.forget.ensures.nodes c.forget.ensures.size)

pub returns-clause-marked : goal.returns-clause-marked
returns-clause-marked c =
    let inside = c.self.inside in
    let seats = c.args.seats.now in
    let tied = tied_inside inside.links inside.marks.size inside.marked c.args.self.now seats c.self.view_is c.requires.tied in
    let t = c.args.t in
    let mid = c.clear.new.self in
    let new = c.clear-2.new.self in
    rw (← c.self.view_is)
    (marked_ended inside.links mid new seats inside.marks.size inside.marked c.forget.new.self t.t t.at tied c.requires.sits (λ d other. c.laws.ensures.one t.t t.at d c.requires.sits other)
    (cleared Row t.at inside.links mid c.laws-2.ensures.crossed c.clear.ensures) (cleared Column t.at mid new c.laws-3.ensures.crossed c.clear-2.ensures) c.laws-4.ensures.crossed c.forget.ensures.nodes c.forget.ensures.size)

pub returns-clause-unmarked : goal.returns-clause-unmarked
returns-clause-unmarked c =
    let inside = c.self.inside in
    let seats = c.args.seats.now in
    let tied = tied_inside inside.links inside.marks.size inside.marked c.args.self.now seats c.self.view_is c.requires.tied in
    let t = c.args.t in
    let mid = c.clear.new.self in
    let new = c.clear-2.new.self in
    rw (← c.self.view_is)
    (unmarked_ended inside.links mid new seats inside.marks.size inside.marked c.forget.new.self t.t t.at tied c.requires.sits (λ d other. c.laws.ensures.one t.t t.at d c.requires.sits other)
    (cleared Row t.at inside.links mid c.laws-2.ensures.crossed c.clear.ensures) (cleared Column t.at mid new c.laws-3.ensures.crossed c.clear-2.ensures) c.laws-4.ensures.crossed c.forget.ensures.nodes c.forget.ensures.size c.forget.ensures.unchanged)
