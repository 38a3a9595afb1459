use Rattle.std.proofs.Common.{◌≡◌, ◌++◌, string_bytes, take}
use Rattle.asset_printing.specs.Printed.{AreNumbers, more_text}
use Rattle.asset_printing.proofs.sets.push_more.Given as goal

-- the objects so far are printed
abbrev pub invariant-objects : goal.invariant-objects
invariant-objects l = (string_bytes l.text ≡ string_bytes l.fn.text ++ more_text (take l.x-index l.objects)) × AreNumbers (take l.x-index l.objects)
