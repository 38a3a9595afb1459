use Rattle.std.proofs.Common.{◌≡◌, drop}
use Rattle.asset_reference.specs.Owners.{responsible}
use Rattle.asset_reference.proofs.operating.responsible.Given as goal

-- the entries that are left say of the one so far what all of them say of the owner
abbrev pub invariant-later : goal.invariant-later
invariant-later l = responsible l.later l.fn.owner.0 l.x.0 ≡ responsible (drop l.entry-index l.later) l.now.0 l.x.0
