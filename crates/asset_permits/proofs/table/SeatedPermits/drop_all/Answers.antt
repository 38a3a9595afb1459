use Rattle.std.proofs.Common.{◌≡◌, ℕ, Some}
use Rattle.asset_chains.specs.Chained.{home_of}
use Rattle.asset_chains.specs.declared.side.Side.{Side}
use Rattle.asset_chains.specs.Crossed.{lines}
use Rattle.asset_permits.specs.Descriptors.{Descriptor, stands, one_covers, same_descriptor, lets}
use Rattle.asset_permits.proofs.SlotLemmas.{IsRidOf, any_dropped, same_owned, same_to, lets_owned, lets_to}
use Rattle.asset_permits.proofs.DropLemmas.{shrinks_then, valid_after, valid_without, cleared_shrinks, cleared_both}
use Rattle.asset_permits.proofs.TableLemmas.{cleared_rid, tied_inside}
use Rattle.asset_permits.proofs.OpenLemmas.{opens_dropped}
use Rattle.asset_permits.proofs.table.SeatedPermits.drop_all.Goals as goal

pub returns-clause-tied : goal.returns-clause-tied
returns-clause-tied c =
    let inside = c.self.inside in
    let first = c.clear.new.self in
    let second = c.clear-2.new.self in
    let tied = tied_inside inside.permits inside.marks.size c.args.self.now c.args.seats.now c.self.view_is c.requires.tied in
    valid_after inside.permits second c.args.seats.now inside.marks.size tied (shrinks_then inside.permits first second (cleared_shrinks _ inside.permits first c.clear.ensures) (cleared_shrinks _ first second c.clear-2.ensures)) c.laws-4.ensures.crossed

pub returns-clause-leaves : goal.returns-clause-leaves
returns-clause-leaves c = λ left leaves.
    let inside = c.self.inside in
    let at = c.args.t.at in
    let second = c.clear-2.new.self in
    let gone : (side : Side) (k : ℕ) → home_of (lines side second) k ≡ Some at → ⊥ =
    search (c.clear.ensures, c.clear-2.ensures, cleared_both inside.permits c.clear.new.self second at c.laws-2.ensures.crossed c.laws-3.ensures.crossed)
    in
    valid_without second c.args.seats.now left inside.marks.size at (returns-clause-tied c) gone leaves

pub returns-clause-stands : goal.returns-clause-stands
unfolding stands
returns-clause-stands c = λ e.
    let inside = c.self.inside in
    let t = c.args.t in
    let second = c.clear-2.new.self in
    let tied = tied_inside inside.permits inside.marks.size c.args.self.now c.args.seats.now c.self.view_is c.requires.tied in
    let rid : IsRidOf t.t.0 inside.permits.items second.items =
    search (c.clear.ensures, c.clear-2.ensures, cleared_rid inside.permits c.clear.new.self second c.args.seats.now inside.marks.size t.t t.at tied c.requires.sits (λ d other. c.laws.ensures.one t.t t.at d c.requires.sits other) c.laws-2.ensures.crossed c.laws-3.ensures.crossed c.laws-4.ensures.crossed)
    in
    rw (← c.self.view_is) (any_dropped (λ (k : Descriptor). same_descriptor k e) t.t.0 e.giver e.taker inside.permits.items second.items (same_owned e) (same_to e) rid)

pub returns-clause-covers : goal.returns-clause-covers
unfolding one_covers
returns-clause-covers c = λ u v x op.
    let inside = c.self.inside in
    let t = c.args.t in
    let second = c.clear-2.new.self in
    let tied = tied_inside inside.permits inside.marks.size c.args.self.now c.args.seats.now c.self.view_is c.requires.tied in
    let rid : IsRidOf t.t.0 inside.permits.items second.items =
    search (c.clear.ensures, c.clear-2.ensures, cleared_rid inside.permits c.clear.new.self second c.args.seats.now inside.marks.size t.t t.at tied c.requires.sits (λ d other. c.laws.ensures.one t.t t.at d c.requires.sits other) c.laws-2.ensures.crossed c.laws-3.ensures.crossed c.laws-4.ensures.crossed)
    in
    rw (← c.self.view_is) (any_dropped (lets u v x op) t.t.0 u v inside.permits.items second.items (lets_owned u v x op) (lets_to u v x op) rid)

pub returns-clause-opens : goal.returns-clause-opens
returns-clause-opens c = λ u x op.
    let inside = c.self.inside in
    let t = c.args.t in
    let second = c.clear-2.new.self in
    let tied = tied_inside inside.permits inside.marks.size c.args.self.now c.args.seats.now c.self.view_is c.requires.tied in
    let rid : IsRidOf t.t.0 inside.permits.items second.items =
    search (c.clear.ensures, c.clear-2.ensures, cleared_rid inside.permits c.clear.new.self second c.args.seats.now inside.marks.size t.t t.at tied c.requires.sits (λ d other. c.laws.ensures.one t.t t.at d c.requires.sits other) c.laws-2.ensures.crossed c.laws-3.ensures.crossed c.laws-4.ensures.crossed)
    in
    rw (← c.self.view_is) (opens_dropped inside.may_open inside.permits second t.t.0 c.self.invariant.1 rid u x op)
