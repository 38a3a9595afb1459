use Rattle.std.proofs.Common.{refl, sym}
use Rattle.asset_chains.specs.declared.side.Side.TheVariants.{Row, Column}
use Rattle.asset_chains.proofs.SlotLemmas.{links_set, links_kept, values_kept}
use Rattle.asset_chains.proofs.slots.set_link.Goals as goal

pub returns-in-Row-clause-links : goal.returns-in-Row-clause-links
returns-in-Row-clause-links g c = rw c.in-Row.is (links_set Row c.args.slots.now c.args.key (record c.in-Some.slot.now { row = c.args.link }))

pub returns-in-Row-clause-others : goal.returns-in-Row-clause-others
returns-in-Row-clause-others g c = rw c.in-Row.is (links_kept Column c.args.slots.now c.args.key c.in-Some.slot.now (record c.in-Some.slot.now { row = c.args.link }) (sym c.in-Some.ensures.value) refl)

pub returns-in-Row-clause-values : goal.returns-in-Row-clause-values
returns-in-Row-clause-values g c = values_kept c.args.slots.now c.args.key c.in-Some.slot.now (record c.in-Some.slot.now { row = c.args.link }) (sym c.in-Some.ensures.value) refl

pub returns-in-Column-clause-links : goal.returns-in-Column-clause-links
returns-in-Column-clause-links g c = rw c.in-Column.is (links_set Column c.args.slots.now c.args.key (record c.in-Some.slot.now { column = c.args.link }))

pub returns-in-Column-clause-others : goal.returns-in-Column-clause-others
returns-in-Column-clause-others g c = rw c.in-Column.is (links_kept Row c.args.slots.now c.args.key c.in-Some.slot.now (record c.in-Some.slot.now { column = c.args.link }) (sym c.in-Some.ensures.value) refl)

pub returns-in-Column-clause-values : goal.returns-in-Column-clause-values
returns-in-Column-clause-values g c = values_kept c.args.slots.now c.args.key c.in-Some.slot.now (record c.in-Some.slot.now { column = c.args.link }) (sym c.in-Some.ensures.value) refl
