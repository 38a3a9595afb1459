use Rattle.std.proofs.Common.{sym, ◌∙◌}
use Rattle.asset_deps.specs.declared.kinds.Kinds.TheVariants.{Class, Dooming}
use Rattle.asset_deps.specs.Valid.{dependencies_in}
use Rattle.asset_deps.proofs.KindLemmas.{class_linked, doom_linked}
use Rattle.asset_deps.proofs.NamedLemmas.{leads_to_nobody}
use Rattle.asset_deps.proofs.OutsideLemmas.{no_outside}
use Rattle.asset_deps.proofs.SeatLemmas.{named_if_sat, absent_unless}
use Rattle.asset_deps.proofs.TableLemmas.{parts_of}
use Rattle.asset_deps.proofs.deps.Deps.is_enrolled.Goals as goal

pub returns-clause-enrolled : goal.returns-clause-enrolled
returns-clause-enrolled c =
    let inside = c.self.inside in
    rw (← c.self.view_is) (c.is_some.ensures ∙ named_if_sat inside.seats c.args.t c.seat_of.result c.seat_of.ensures.found c.seat_of.ensures.absent)

pub returns-clause-alone : goal.returns-clause-alone
returns-clause-alone c =
    let inside = c.self.inside in
    let p = parts_of inside.table.links inside.seats in
    let size = inside.table.size in
    let marked = inside.table.marked in
    let ds = dependencies_in inside.table in
    rw (← c.self.view_is) (λ none n.
    let absent = absent_unless c.seat_of.result c.seat_of.ensures.absent (sym c.is_some.ensures ∙ none) in (
      sym (class_linked ds c.args.t.0 n) ∙ leads_to_nobody p size marked c.self.invariant Class c.args.t n absent,
      sym (doom_linked ds c.args.t.0 n) ∙ leads_to_nobody p size marked c.self.invariant Dooming c.args.t n absent,
    ))

pub returns-clause-no_source : goal.returns-clause-no_source
returns-clause-no_source c =
    let inside = c.self.inside in
    let p = parts_of inside.table.links inside.seats in
    let size = inside.table.size in
    let marked = inside.table.marked in
    rw (← c.self.view_is) (λ none. no_outside p size marked c.self.invariant c.args.t (absent_unless c.seat_of.result c.seat_of.ensures.absent (sym c.is_some.ensures ∙ none)))
