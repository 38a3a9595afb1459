use Rattle.std.proofs.Common.{rules, sym, ◌∙◌}
use Rattle.asset_deps.specs.declared.kinds.Kinds.TheVariants.{Class}
use Rattle.asset_deps.specs.Valid.{dependencies_in}
use Rattle.asset_deps.proofs.KindLemmas.{class_linked}
use Rattle.asset_deps.proofs.NamedLemmas.{leads_to_nobody, itself_leads}
use Rattle.asset_deps.proofs.TableLemmas.{parts_of}
use Rattle.asset_deps.proofs.deps.Deps.same_class.Goals as goal

pub returns-in_default-clause-same_class : goal.returns-in_default-clause-same_class
returns-in_default-clause-same_class c =
    let inside = c.self.inside in
    let p = parts_of inside.table.links inside.seats in
    let size = inside.table.size in
    let marked = inside.table.marked in
    rw (← c.self.view_is) (c.eq.ensures ∙ sym (leads_to_nobody p size marked c.self.invariant Class c.args.a c.args.b.0 c.in_default.ensures.absent) ∙ class_linked (dependencies_in inside.table) c.args.a.0 c.args.b.0)

pub returns-in_default-seat_of-clause-same_class : goal.returns-in_default-seat_of-clause-same_class
returns-in_default-seat_of-clause-same_class c =
    let inside = c.self.inside in
    let p = parts_of inside.table.links inside.seats in
    let size = inside.table.size in
    let marked = inside.table.marked in
    rw (← c.self.view_is) (c.eq-in_default-seat_of.ensures ∙ sym (itself_leads p size marked c.self.invariant Class c.args.b c.args.a.0 c.in_default-seat_of.ensures.absent) ∙ class_linked (dependencies_in inside.table) c.args.a.0 c.args.b.0)

pub returns-clause-same_class : goal.returns-clause-same_class
returns-clause-same_class c = search rules
