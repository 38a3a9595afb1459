use Rattle.std.proofs.Common.{arith}
use Rattle.asset_names.specs.Room.{owed_to}
use Rattle.asset_names.specs.declared.statuses.End.TheVariants as End'
use Rattle.asset_trans.specs.TransRows.{one_if_live, live_count_in, owed_in, one_if_ended, ended_in, status_in}
use Rattle.asset_trans.proofs.TransRowLemmas.{known_set, live_not_ended, most_ended}
use Rattle.asset_trans.proofs.table.Trans.change.Goals as goal

pub overflow_sub-self : goal.overflow_sub-self
overflow_sub-self c = rw (c.one_if_live-2.ensures, c.one_if_live.ensures, c.set_status-before.ensures.before) (rw (← c.self.view_is) at c.requires.live_less)

pub overflow_sub-self-2 : goal.overflow_sub-self-2
unfolding live_count_in
overflow_sub-self-2 c =
    rw (c.one_if_live-2.ensures, c.one_if_live.ensures, c.set_status-before.ensures.before)
    (omega (arith, c.set_status-before.ensures.counted one_if_live, c.self.invariant.counts_live))

pub overflow_sub-self-4 : goal.overflow_sub-self-4
unfolding owed_in
overflow_sub-self-4 c =
    rw (c.owed-2.ensures, c.owed.ensures, c.set_status-before.ensures.before)
    (omega (arith, c.set_status-before.ensures.counted owed_to, c.self.invariant.counts_owed))

pub invariant_of-self : goal.invariant_of-self
unfolding live_count_in owed_in ended_in
invariant_of-self c = record {
  known = rw c.set_status-before.ensures.set (known_set _ _ _ c.requires.known c.self.invariant.known);
  counts_live =
      rw (c.one_if_live-2.ensures, c.one_if_live.ensures, c.set_status-before.ensures.before)
      (omega (arith, c.set_status-before.ensures.counted one_if_live, c.self.invariant.counts_live, rw (← c.self.view_is) at c.requires.live_less));
  counts_owed =
      rw (c.owed-2.ensures, c.owed.ensures, c.set_status-before.ensures.before)
      (omega (arith, c.set_status-before.ensures.counted owed_to, c.self.invariant.counts_owed, rw (← c.self.view_is) at c.requires.owed_less));
  counts_committed = rw c.one_if_ended.ensures
      (omega (arith, c.set_status-before.ensures.counted (one_if_ended End'.Committed), c.self.invariant.counts_committed, live_not_ended End'.Committed (status_in c.self.inside.rows.entries c.args.t.0) (rw c.self.view_is c.requires.live)));
  counts_aborted = rw c.one_if_ended-2.ensures
      (omega (arith, c.set_status-before.ensures.counted (one_if_ended End'.Aborted), c.self.invariant.counts_aborted, live_not_ended End'.Aborted (status_in c.self.inside.rows.entries c.args.t.0) (rw c.self.view_is c.requires.live)));
}

pub overflow_add-self : goal.overflow_add-self
unfolding ended_in
overflow_add-self c =
    rw c.one_if_ended.ensures
    (omega (arith, most_ended End'.Committed c.set_status-before.new.rows.entries, c.len-len.ensures, c.set_status-before.ensures.counted (one_if_ended End'.Committed), c.self.invariant.counts_committed, live_not_ended End'.Committed (status_in c.self.inside.rows.entries c.args.t.0) (rw c.self.view_is c.requires.live)))

pub overflow_add-self-2 : goal.overflow_add-self-2
unfolding ended_in
overflow_add-self-2 c =
    rw c.one_if_ended-2.ensures
    (omega (arith, most_ended End'.Aborted c.set_status-before.new.rows.entries, c.len-len.ensures, c.set_status-before.ensures.counted (one_if_ended End'.Aborted), c.self.invariant.counts_aborted, live_not_ended End'.Aborted (status_in c.self.inside.rows.entries c.args.t.0) (rw c.self.view_is c.requires.live)))
