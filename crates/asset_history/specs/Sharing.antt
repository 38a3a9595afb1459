-- With whom a transaction has come to share, and whether somebody of them has committed.
use Rattle.std.specs.Prelude.{ℕ, Bool, not, List, Option, find}
use Rattle.std.specs.Option.{option_map}
use Rattle.asset_names.specs.declared.names.Txn.{Txn}
use Rattle.asset_names.specs.Steps.{Entry}
use Rattle.asset_names.specs.Groups.{same_group, dead}
use Rattle.asset_history.specs.Named.{names_of}

-- a transaction by its name
abbrev pub named : ℕ → Txn
named n = record { 0 = n }

-- the first of the names, in order of first use, that is of t's group; none if no step acts on t
unfoldable pub first_of : List Entry → ℕ → Option Txn
first_of entries t = option_map named (find (λ n. same_group entries n t) (names_of entries))

-- whether a member of t's group has committed
unfoldable pub group_committed : List Entry → ℕ → Bool
group_committed entries t = not (dead entries t)
