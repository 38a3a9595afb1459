use Rattle.std.proofs.Common.{◌≡◌, ◌++◌, replicate, string_bytes}
use Rattle.asset_cli.proofs.listing.push_spaces.Given as goal

-- the text so far has as many spaces more as were counted
abbrev pub invariant-spaces : goal.invariant-spaces
invariant-spaces l = string_bytes l.text ≡ string_bytes l.fn.text ++ replicate l.counter 32
