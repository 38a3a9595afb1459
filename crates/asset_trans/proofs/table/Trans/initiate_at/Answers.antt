use Rattle.std.proofs.Common.{arith, ◌∙◌, sym}
use Rattle.asset_names.specs.declared.statuses.End.TheVariants as End'
use Rattle.asset_trans.specs.TransRows.{initiate_in}
use Rattle.asset_trans.proofs.TransRowLemmas.{initiated_counts, most_live, most_owed, unknown_absent, known_initiate, initiated_ended}
use Rattle.asset_trans.proofs.table.Trans.initiate_at.Goals as goal

pub overflow_add-self : goal.overflow_add-self
overflow_add-self c =
    let counts = initiated_counts c.args.t c.args.parent c.args.seat c.self.inside.rows.entries in
    let small = rw c.in_ok-add_row.ensures.added at c.add_row.ensures.small in
    omega (arith, counts.0, most_live (initiate_in c.self.inside.rows.entries c.args.t c.args.parent c.args.seat), small, c.self.invariant.counts_live)

pub overflow_add-self-2 : goal.overflow_add-self-2
overflow_add-self-2 c =
    let counts = initiated_counts c.args.t c.args.parent c.args.seat c.self.inside.rows.entries in
    let small = rw c.in_ok-add_row.ensures.added at c.add_row.ensures.small in
    omega (arith, counts.1, most_owed (initiate_in c.self.inside.rows.entries c.args.t c.args.parent c.args.seat), small, c.self.invariant.counts_owed)

pub invariant_of-self-2 : goal.invariant_of-self-2
invariant_of-self-2 c =
    let counts = initiated_counts c.args.t c.args.parent c.args.seat c.self.inside.rows.entries in
    rw c.in_ok-add_row.ensures.added (record {
      known = known_initiate c.args.t c.args.parent c.args.seat c.self.inside.rows.entries c.self.invariant.known;
      counts_live = omega (arith, counts.0, c.self.invariant.counts_live);
      counts_owed = omega (arith, counts.1, c.self.invariant.counts_owed);
      counts_committed = c.self.invariant.counts_committed ∙ sym (initiated_ended End'.Committed c.args.t c.args.parent c.args.seat c.self.inside.rows.entries);
      counts_aborted = c.self.invariant.counts_aborted ∙ sym (initiated_ended End'.Aborted c.args.t c.args.parent c.args.seat c.self.inside.rows.entries);
    })

pub add_row-requires : goal.add_row-requires
add_row-requires c = record { absent = unknown_absent c.args.t.0 c.self.inside.rows.entries c.self.invariant.known (rw c.self.view_is c.requires.new) }

pub returns-in_err-add_row-clause-absent : goal.returns-in_err-add_row-clause-absent
returns-in_err-add_row-clause-absent c = rw (← c.self.view_is) (unknown_absent c.args.t.0 c.self.inside.rows.entries c.self.invariant.known (rw c.self.view_is c.requires.new))

pub returns-clause-absent : goal.returns-clause-absent
returns-clause-absent c = rw (← c.self.view_is) (unknown_absent c.args.t.0 c.self.inside.rows.entries c.self.invariant.known (rw c.self.view_is c.requires.new))
