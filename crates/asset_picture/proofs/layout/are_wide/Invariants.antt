use Rattle.std.proofs.Common.{◌≡◌, false, take}
use Rattle.asset_picture.specs.Layout.{are_wide}
use Rattle.asset_picture.proofs.layout.are_wide.Given as goal

-- none so far has a long number
abbrev pub invariant-marks : goal.invariant-marks
invariant-marks l = are_wide (take l.mark-index l.marks) ≡ false
