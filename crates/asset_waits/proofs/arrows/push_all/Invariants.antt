use Rattle.std.proofs.Common.{◌≡◌, ◌++◌}
use Rattle.asset_names.specs.Steps.{applied}
use Rattle.asset_waits.specs.Deadlocks.{arrows_before}
use Rattle.asset_waits.proofs.arrows.push_all.Given as goal

-- the arrows from the places so far are appended, and the facility is the same
abbrev pub invariant-places : goal.invariant-places
invariant-places l = record {
  same : l.core ≡ l.fn.core;
  arrows : l.arrows.items ≡ l.fn.arrows.items ++ arrows_before (applied l.fn.core.history.entries) l.fn.core.pending l.names.keys l.place;
}
