use Rattle.std.proofs.Common.{◌≡◌, reverse, take}
use Rattle.asset_names.specs.Steps.{applied}
use Rattle.asset_names.specs.Operations.{openers}
use Rattle.asset_reference.specs.Openers.{reached}
use Rattle.asset_reference.proofs.allowing.reaches_opener.Given as goal

-- what the entries so far say
abbrev pub invariant-entries : goal.invariant-entries
invariant-entries l = l.reached ≡ reached (applied (reverse l.entries)) l.u.0 l.x.0 l.op (openers (applied (reverse (take l.index l.entries))) l.x.0 l.op)
