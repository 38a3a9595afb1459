use Rattle.std.proofs.Common.{◌≡◌, take, ◌&&◌, not}
use Rattle.asset_permits.specs.Descriptors.{Descriptor, stands}
use Rattle.asset_permits.specs.Copies.{given_by}
use Rattle.asset_permits.specs.Valid.{permits_in, IsTied}
use Rattle.asset_permits.proofs.table.SeatedPermits.remove_all.Given as goal

-- the permits of the copies so far are gone
abbrev pub invariant-added : goal.invariant-added
invariant-added l = record {
  tied : IsTied l.self l.seats;
  standing : (e : Descriptor) → stands (permits_in l.self) e ≡ (stands (permits_in l.initial.self) e && not (stands (given_by l.receiver.t.0 (take l.cut-index l.added)) e));
}
