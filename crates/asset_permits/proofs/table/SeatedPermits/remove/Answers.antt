use Rattle.std.proofs.Common.{◌≡◌, false, is_some, sym, ap, ◌∙◌}
use Rattle.asset_permits.specs.Descriptors.{stands}
use Rattle.asset_permits.specs.Stored.{asked}
use Rattle.asset_permits.specs.Valid.{parts_of, descriptors_of}
use Rattle.asset_permits.proofs.CopyLemmas.{removed, not_there}
use Rattle.asset_permits.proofs.DropLemmas.{valid_after, removed_shrinks}
use Rattle.asset_permits.proofs.TableLemmas.{found_given, tied_inside}
use Rattle.asset_permits.proofs.table.SeatedPermits.remove.Goals as goal

pub returns-in_default-clause-stands : goal.returns-in_default-clause-stands
returns-in_default-clause-stands c =
    let inside = c.self.inside in
    let seats = c.args.seats.now in
    let giver = c.args.sought.now.giver in
    let tied = tied_inside inside.permits inside.marks.size c.args.self.now seats c.self.view_is c.requires.tied in
    let absent : stands (descriptors_of inside.permits.items) (asked c.args.sought.now) ≡ false =
    sym (found_given (parts_of inside.permits seats) inside.marks.size tied (asked c.args.sought.now) giver.at (λ d other. c.laws.ensures.one giver.t giver.at d c.requires.sit.0 other) c.find.result c.find.ensures.found c.find.ensures.absent) ∙ ap is_some c.in_default.is
    in
    rw (← c.self.view_is) (λ e. not_there _ (asked c.args.sought.now) e absent)

pub returns-clause-tied : goal.returns-clause-tied
returns-clause-tied c =
    let inside = c.self.inside in
    let seats = c.args.seats.now in
    let tied = tied_inside inside.permits inside.marks.size c.args.self.now seats c.self.view_is c.requires.tied in
    let fewer = c.remove.new.self in
    valid_after inside.permits fewer seats inside.marks.size tied (removed_shrinks c.in-Some.key inside.permits fewer c.remove.ensures.items c.remove.ensures.lines) c.laws-3.ensures.crossed

pub returns-clause-stands : goal.returns-clause-stands
returns-clause-stands c =
    let inside = c.self.inside in
    let tied = tied_inside inside.permits inside.marks.size c.args.self.now c.args.seats.now c.self.view_is c.requires.tied in
    rw (← c.self.view_is) (λ e. removed inside.permits.items c.remove.new.self.items c.in-Some.key (asked c.args.sought.now) e tied.single c.in-Some.ensures.found c.remove.ensures.items.others c.remove.ensures.items.changed)
