use Rattle.std.proofs.Common.{◌≡◌, true, take}
use Rattle.std.specs.List.{list_all}
use Rattle.asset_names.specs.Answers.{is_completed}
use Rattle.asset_trans.specs.TransRows.{status_in}
use Rattle.asset_deps.specs.Valid.{marked_in}
use Rattle.asset_ends.proofs.ending.all_completed.Given as goal

-- the marked so far have completed
abbrev pub invariant-marked : goal.invariant-marked
invariant-marked l = list_all (λ n. is_completed (status_in l.trans n)) (take l.index (marked_in l.seats l.deps)) ≡ true
