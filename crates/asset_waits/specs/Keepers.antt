-- The line of somebody who keeps a transaction from a commit, by why.
use Rattle.std.specs.Prelude.{ℕ, List}
use Rattle.asset_waits.specs.declared.commits.Keeper.{Keeper}
use Rattle.asset_waits.specs.declared.commits.Keeper.TheVariants.{Unfinished, Source}
use Rattle.asset_waits.specs.Texts.{unfinished_line, source_line}

-- the line of u, which keeps t from a commit, by why
abbrev pub keeper_line : Keeper → ℕ → ℕ → List ℕ
keeper_line Unfinished t u = unfinished_line t u
keeper_line Source t u = source_line t u
