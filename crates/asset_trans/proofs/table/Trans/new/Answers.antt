use Rattle.std.proofs.Common.{refl}
use Rattle.asset_trans.specs.TransRows.{live_count_in, owed_in, ended_in, has_unknown}
use Rattle.asset_trans.proofs.table.Trans.new.Goals as goal

pub invariant_of-result : goal.invariant_of-result
unfolding live_count_in owed_in ended_in has_unknown
invariant_of-result c = record { known = rw c.new.ensures.empty refl; counts_live = rw c.new.ensures.empty refl; counts_owed = rw c.new.ensures.empty refl; counts_committed = rw c.new.ensures.empty refl; counts_aborted = rw c.new.ensures.empty refl }
