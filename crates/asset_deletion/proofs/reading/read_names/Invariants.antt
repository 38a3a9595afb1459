use Rattle.std.proofs.Common.{◌≡◌, take}
use Rattle.asset_deletion.specs.Numbered.{AreCounted, AreNumbered}
use Rattle.asset_deletion.proofs.reading.read_names.Given as goal

-- the first names are read
abbrev pub invariant-names : goal.invariant-names
invariant-names l = record {
  names_are : l.names.keys ≡ take l.node l.kept.names;
  numbered : AreNumbered l.kept l.numbers.items l.node;
  counted : AreCounted l.kept l.is_dead.items l.node;
}
