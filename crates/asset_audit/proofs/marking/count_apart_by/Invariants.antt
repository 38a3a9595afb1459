use Rattle.std.proofs.Common.{◌≡◌, ◌-◌, ◌≤◌, ◌<◌, map, length}
use Rattle.asset_audit.specs.Apart.{AreApartBelow, SharesEarlier}
use Rattle.asset_audit.proofs.marking.count_apart_by.Given as goal

abbrev pub invariant-loop-first : goal.invariant-loop-first
invariant-loop-first g l = record {
  width : length l.marks ≡ length l.fn.marks;
  within : l.apart ≤ length l.sessions;
  apart : AreApartBelow (map g.C.Calls.listed l.sessions) l.apart l.first;
  next : l.apart < length l.sessions → SharesEarlier (map g.C.Calls.listed l.sessions) l.apart;
}

abbrev pub decreases-loop-first : goal.decreases-loop-first
decreases-loop-first g l = l.limit - l.first
