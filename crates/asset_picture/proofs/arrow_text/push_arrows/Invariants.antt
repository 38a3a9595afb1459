use Rattle.std.proofs.Common.{◌≡◌, ◌++◌, string_bytes, take}
use Rattle.asset_picture.specs.Picture.{arrows_text}
use Rattle.asset_picture.proofs.arrow_text.push_arrows.Given as goal

-- the arrows so far are appended
abbrev pub invariant-arrows : goal.invariant-arrows
invariant-arrows l = string_bytes l.text ≡ string_bytes l.fn.text ++ arrows_text l.wide (take l.arrow-index l.arrows)
