use Rattle.std.proofs.Common.{refl, arith}
use Rattle.asset_names.specs.Steps.{applied, initiated}
use Rattle.asset_names.specs.Answers.{IsLegal}
use Rattle.asset_names.specs.Room.{owed}
use Rattle.asset_entries.specs.Recorded.{opened}
use Rattle.asset_core.specs.Pending.{facility_of}
use Rattle.asset_core.specs.Tables.{pending_in}
use Rattle.asset_core.proofs.facility.Core.over.Goals as goal

pub invariant_of-result : goal.invariant_of-result
unfolding opened owed applied initiated IsLegal
invariant_of-result c = rw c.in-Ok.ensures (record { stand = c.requires.shows; legal = tt; fitting = omega (arith, c.requires.capacity); capacity = omega (arith, c.requires.capacity) })

pub returns-in-Ok : goal.returns-in-Ok
unfolding facility_of pending_in
returns-in-Ok c = rw (c.in-Ok.ensures, c.requires.locks) refl
