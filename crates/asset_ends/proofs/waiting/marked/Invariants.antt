use Rattle.std.proofs.Common.{◌≡◌, ◌&&◌, ℕ, take}
use Rattle.asset_names.specs.Arrows.{lists}
use Rattle.asset_trans.specs.TransRows.{status_in}
use Rattle.asset_ends.specs.Ended.{marked_by}
use Rattle.asset_ends.specs.Waits.{is_sought}
use Rattle.asset_ends.proofs.waiting.marked.Given as goal

-- those who are looked for among the marked so far are found
abbrev pub invariant-marked : goal.invariant-marked
invariant-marked l = (u : ℕ) → lists l.found.keys u ≡ (lists (take l.index (marked_by l.parts)) u && is_sought l.who (status_in l.parts.trans u))
