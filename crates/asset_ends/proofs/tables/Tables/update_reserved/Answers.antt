use Rattle.std.proofs.Common.{◌≡◌, rules, List, sym, ap, ◌∙◌}
use Rattle.asset_names.specs.Endings.{is_live_status}
use Rattle.asset_names.proofs.NumberLemmas.{number_reads}
use Rattle.asset_objects.specs.Cells.{ObjectTable, number_of}
use Rattle.asset_objects.proofs.PlacedLemmas.{number_named}
use Rattle.asset_objects.specs.Placed.{object_table}
use Rattle.asset_trans.specs.TransRows.{NamedTransRow, status_in, seat_in}
use Rattle.asset_ends.specs.Standing.{Standing}
use Rattle.asset_ends.proofs.EnrolledLemmas.{live_sits}
use Rattle.asset_ends.proofs.tables.Tables.update_reserved.Goals as goal

pub change-requires-clause-sits : goal.change-requires-clause-sits
unfolding is_live_status
change-requires-clause-sits c =
    let inside = c.self.inside.parts in
    let t = c.args.one.t.0 in
    let rows : inside.trans ≡ c.args.self.now.trans = ap (λ (s : Standing). s.trans) c.self.view_is ∙ c.hold.ensures.rows in
    live_sits inside.trans inside.seats c.args.one c.self.invariant.seats (c.requires.seat ∙ sym (ap (λ (r : List NamedTransRow). seat_in r t) rows))
    (ap is_live_status (ap (λ (r : List NamedTransRow). status_in r t) rows ∙ c.requires.runs))

pub change-requires-clause-reserved : goal.change-requires-clause-reserved
unfolding object_table
change-requires-clause-reserved c =
    ap (λ (s : Standing). s.objects.reserved) c.self.view_is ∙ ap (λ (o : ObjectTable). o.reserved) c.hold.ensures.objects ∙ c.requires.reserved

pub change-requires-clause-exists : goal.change-requires-clause-exists
change-requires-clause-exists c =
    let objects = c.self.inside.parts.objects in
    let seen = ap (λ (s : Standing). number_of s.objects c.args.x.0) c.self.view_is ∙ ap (λ (o : ObjectTable). number_of o c.args.x.0) c.hold.ensures.objects ∙ c.requires.number in
    (number_reads objects.objects c.args.x.0 c.args.number (sym (number_named objects c.args.x.0) ∙ seen)).0

pub returns-then-branch-clause-objects : goal.returns-then-branch-clause-objects
returns-then-branch-clause-objects c =
    let objects = c.self.inside.parts.objects in
    let seen = ap (λ (s : Standing). number_of s.objects c.args.x.0) c.self.view_is ∙ ap (λ (o : ObjectTable). number_of o c.args.x.0) c.hold.ensures.objects ∙ c.requires.number in
    let changed = c.change.ensures.cells c.args.x.0 (sym (number_named objects c.args.x.0) ∙ seen) in
    search rules
