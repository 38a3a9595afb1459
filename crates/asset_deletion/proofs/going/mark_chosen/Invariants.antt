use Rattle.std.proofs.Common.{◌≡◌, ℕ, false, length, get_or, take}
use Rattle.asset_deletion.specs.Going.{goes}
use Rattle.asset_deletion.proofs.going.mark_chosen.Given as goal

-- the groups of the first chosen transactions are marked
abbrev pub invariant-chosen : goal.invariant-chosen
invariant-chosen l = record {
  size : length l.going.items ≡ length l.fn.going.items;
  marked : (g : ℕ) → get_or l.going.items g false ≡ goes l.groups (take l.i l.chosen) g;
}
