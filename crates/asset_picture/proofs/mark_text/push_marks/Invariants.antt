use Rattle.std.proofs.Common.{◌≡◌, ◌++◌, string_bytes, take}
use Rattle.asset_picture.specs.Picture.{marks_text}
use Rattle.asset_picture.proofs.mark_text.push_marks.Given as goal

-- the marks so far are appended
abbrev pub invariant-marks : goal.invariant-marks
invariant-marks l = string_bytes l.text ≡ string_bytes l.fn.text ++ marks_text l.wide (take l.mark-index l.marks)
