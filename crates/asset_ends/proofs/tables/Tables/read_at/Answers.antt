use Rattle.std.proofs.Common.{◌≡◌, Some, w64, to_z, of_z, arith, ap, sym, ◌∙◌}
use Rattle.std.proofs.lemmas.Int.{to_z-of_z}
use Rattle.asset_names.proofs.NumberLemmas.{number_reads}
use Rattle.asset_objects.specs.Cells.{ObjectTable, cells, number_of, value_in}
use Rattle.asset_objects.proofs.PlacedLemmas.{number_named}
use Rattle.asset_ends.specs.Standing.{Standing, is_free_for}
use Rattle.asset_ends.proofs.AskedLemmas.{read_asked_shows}
use Rattle.asset_ends.proofs.ShowsLemmas.{running_live}
use Rattle.asset_ends.proofs.StandingLemmas.{stand_as}
use Rattle.asset_ends.proofs.tables.Tables.read_at.Goals as goal

pub returns-clause-stand : goal.returns-clause-stand
unfolding is_free_for
returns-clause-stand c =
    λ opening steps stand.
    stand_as opening _ _ _ _ _ _ _ c.hold.ensures.rows (ap cells c.hold.ensures.objects) c.in_ok-hold.ensures.locks c.hold.ensures.permits c.hold.ensures.deps
    (read_asked_shows opening steps _ _ _ _ _ c.args.one.t c.args.x _ stand (running_live opening steps _ _ _ _ _ c.args.one.t.0 stand c.requires.runs) c.hold.ensures.enrolled)

pub returns-then-not-branch-clause-stand : goal.returns-then-not-branch-clause-stand
unfolding is_free_for
returns-then-not-branch-clause-stand c =
    λ opening steps stand.
    stand_as opening _ _ _ _ _ _ _ c.hold.ensures.rows (ap cells c.hold.ensures.objects) c.in_ok-hold.ensures.locks c.hold.ensures.permits c.hold.ensures.deps
    (read_asked_shows opening steps _ _ _ _ _ c.args.one.t c.args.x _ stand (running_live opening steps _ _ _ _ _ c.args.one.t.0 stand c.requires.runs) c.hold.ensures.enrolled)

pub value_at-requires : goal.value_at-requires
value_at-requires c =
    let objects = c.self.inside.parts.objects in
    let seen = ap (λ (s : Standing). number_of s.objects c.args.x.0) c.self.view_is ∙ ap (λ (o : ObjectTable). number_of o c.args.x.0) c.hold.ensures.objects ∙ c.requires.number in
    (number_reads objects.objects c.args.x.0 c.args.number (sym (number_named objects c.args.x.0) ∙ seen)).0

pub returns-clause-answer : goal.returns-clause-answer
returns-clause-answer c =
    let objects = c.self.inside.parts.objects in
    let seen = ap (λ (s : Standing). number_of s.objects c.args.x.0) c.self.view_is ∙ ap (λ (o : ObjectTable). number_of o c.args.x.0) c.hold.ensures.objects ∙ c.requires.number in
    let fits : to_z w64 (of_z w64 c.value_at.result) ≡ c.value_at.result = grind (arith, to_z-of_z) in
    let value = c.value_at.ensures c.args.x.0 (sym (number_named objects c.args.x.0) ∙ seen) in
    rw (sym c.in_ok-hold.ensures.granted ∙ c.if-not-branch.false)
    (ap Some fits
    ∙ sym value
    ∙ ap (λ (s : Standing). value_in (cells s.objects) c.args.x.0) c.self.view_is
    ∙ ap (λ (o : ObjectTable). value_in (cells o) c.args.x.0) c.hold.ensures.objects)
