use Rattle.std.proofs.Common.{◌≡◌, ◌++◌, string_bytes}
use Rattle.asset_picture.specs.Picture.{column_numbers_text}
use Rattle.asset_picture.proofs.opening.push_steps.Given as goal

-- the numbers so far are appended
abbrev pub invariant-entries : goal.invariant-entries
invariant-entries l = string_bytes l.text ≡ string_bytes l.fn.text ++ column_numbers_text l.wide l.i
