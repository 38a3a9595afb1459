use Rattle.std.proofs.Common.{◌≡◌, take, ◌||◌}
use Rattle.asset_permits.specs.Descriptors.{Descriptor, stands}
use Rattle.asset_permits.specs.Copies.{given_by, AddsCuts, TakersSit}
use Rattle.asset_permits.specs.Valid.{permits_in, IsTied}
use Rattle.asset_permits.proofs.table.SeatedPermits.add_cuts.Given as goal

-- the permits of the copies so far stand, and those that did not stand before are noted
abbrev pub invariant-cuts : goal.invariant-cuts
invariant-cuts l = record {
  tied : IsTied l.self l.seats;
  seated : TakersSit l.seats l.added.items;
  adds : AddsCuts l.receiver.t.0 l.added.items (permits_in l.initial.self) (permits_in l.self);
  standing : (e : Descriptor) → stands (permits_in l.self) e ≡ (stands (permits_in l.initial.self) e || stands (given_by l.receiver.t.0 (take l.cut-index l.cuts)) e);
}
