use Rattle.std.proofs.Common.{◌≡◌, Bool, take}
use Rattle.std.specs.List.{list_any}
use Rattle.asset_permits.specs.declared.copying.Cut.{Cut}
use Rattle.asset_permits.specs.Copies.{cuts_in}
use Rattle.asset_permits.specs.Valid.{permits_in}
use Rattle.asset_permits.proofs.table.SeatedPermits.cuts_of.Given as goal

-- what is copied on the objects so far is there
abbrev pub invariant-moved : goal.invariant-moved
invariant-moved l = (test : Cut → Bool) → list_any test l.cuts.items ≡ list_any test (cuts_in l.fn.giver.t.0 (permits_in l.self) (take l.x-index l.moved))
