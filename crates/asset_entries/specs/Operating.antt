-- Operations and open permits that took effect.
use Rattle.std.specs.Prelude.{List, Option, Some, None}
use Rattle.asset_names.specs.declared.names.Txn.{Txn}
use Rattle.asset_names.specs.declared.names.Ob.{Ob}
use Rattle.asset_names.specs.declared.sets.ObSet.{ObSet}
use Rattle.asset_names.specs.declared.sets.ObSet.TheVariants.{All, Listed}
use Rattle.asset_names.specs.declared.steps.Step.{Step}
use Rattle.asset_names.specs.declared.steps.Step.TheVariants.{Read, Write, Add, PermitAny}
use Rattle.asset_names.specs.declared.replies.Reply.{Reply}
use Rattle.asset_names.specs.declared.replies.Reply.TheVariants as Reply'
use Rattle.asset_names.specs.Steps.{Entry}

-- the transaction and the object of an operation that took effect
unfoldable pub operator_of : Step → Reply → Option (Txn × Ob)
operator_of (Read t x) (Reply'.Value v) = Some (t, x)
operator_of (Write t x v) Reply'.Done = Some (t, x)
operator_of (Add t x d) Reply'.Done = Some (t, x)
operator_of step reply = None

-- the giver and the objects of an open permit that took effect
unfoldable pub opener_of : Step → Reply → Option (Txn × List Ob)
opener_of (PermitAny giver obs ops) Reply'.Done = Some (giver, obs)
opener_of step reply = None

-- the giver with the objects of a set, if it is a list
unfoldable pub opener_with : Txn → ObSet → Option (Txn × List Ob)
opener_with giver (Listed obs) = Some (giver, obs)
opener_with giver All = None

-- the transaction and the object of an entry, if it is an operation that took effect
abbrev pub operator_at : Option Entry → Option (Txn × Ob)
operator_at None = None
operator_at (Some entry) = operator_of entry.0 entry.1

-- the giver and the objects of an entry, if it is an open permit that took effect
abbrev pub opener_at : Option Entry → Option (Txn × List Ob)
opener_at None = None
opener_at (Some entry) = opener_of entry.0 entry.1
