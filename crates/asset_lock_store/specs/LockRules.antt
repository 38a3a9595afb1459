-- What a lock is like, and what grants and hand-overs make of the locks of an owner.
use Rattle.std.specs.Prelude.{ℕ, Bool, true, false, cond, not, ◌==◌, ◌&&◌, ◌||◌, List, [], ◌∷◌, ◌++◌, map, filter, Option, Some, None}
use Rattle.std.specs.List.{list_any}
use Rattle.asset_names.specs.declared.names.Ob.{Ob}
use Rattle.asset_names.specs.declared.operations.Op.{Op}
use Rattle.asset_names.specs.declared.operations.Op.TheVariants as Op'
use Rattle.asset_names.specs.Operations.{conflict}
use Rattle.asset_names.specs.OpSets.{has_op, OpSet, op_set, only_op, with_op}
use Rattle.asset_names.specs.declared.sets.ObSet.{ObSet}
use Rattle.asset_names.specs.InSet.{in_set}
use Rattle.asset_lock_store.specs.declared.lock.Lock.{Lock}
use Rattle.asset_lock_store.specs.declared.state.LockState.{LockState}
use Rattle.asset_lock_store.specs.declared.state.LockState.TheVariants.{Granted, Suspended}

-- ---- what a lock is like
-- whether the lock is on x
unfoldable pub is_on : ℕ → Lock → Bool
is_on x lock = lock.object.0 == x

-- whether the lock is on x and carries op
unfoldable pub carries_on : ℕ → Op → Lock → Bool
carries_on x op lock = is_on x lock && has_op lock.ops op

-- whether any of the operations conflicts with op
unfoldable pub one_conflicts : OpSet → Op → Bool
one_conflicts ops op = (has_op ops Op'.Read && conflict Op'.Read op || has_op ops Op'.Write && conflict Op'.Write op) || has_op ops Op'.Add && conflict Op'.Add op

-- whether any of the operations conflicts with any of the others
unfoldable pub both_conflict : OpSet → OpSet → Bool
both_conflict ops others = (has_op others Op'.Read && one_conflicts ops Op'.Read || has_op others Op'.Write && one_conflicts ops Op'.Write) || has_op others Op'.Add && one_conflicts ops Op'.Add

-- whether there is an operation among these
unfoldable pub is_some_op : OpSet → Bool
is_some_op ops = (ops.read || ops.write) || ops.add

-- whether the operations conflict with each operation: they write, or read and add
unfoldable pub excludes : OpSet → Bool
excludes ops = ops.write || ops.read && ops.add

-- whether the lock is on x and carries an operation in conflict with op
unfoldable pub conflicts_on : ℕ → Op → Lock → Bool
conflicts_on x op lock = is_on x lock && one_conflicts lock.ops op

-- the state of a lock
unfoldable pub state_of : Lock → LockState
state_of lock = cond lock.granted Granted Suspended

-- whether one of this name with these locks blocks t from op on x: it is another, who does not allow t, and a lock of
-- its on x conflicts with op
unfoldable pub blocks : (ℕ → Bool) → ℕ → ℕ → Op → ℕ → List Lock → Bool
blocks allows t x op name locks = not (name == t) && not (allows name) && list_any (conflicts_on x op) locks

-- ---- what a grant changes
-- the operations that a lock carries, if there is one, and op
unfoldable pub ops_with : Op → Option Lock → OpSet
ops_with op None = only_op op
ops_with op (Some lock) = with_op op lock.ops

-- a lock of t's after op on x is granted to t: if it is on x, it carries op too, and is granted
unfoldable pub taken : ℕ → Op → Lock → Lock
taken x op lock = cond (is_on x lock) (record lock { ops = with_op op lock.ops; granted = true }) lock

-- a new lock
unfoldable pub new_lock : Ob → Op → Lock
new_lock x op = record { object = x; ops = only_op op; granted = true }

-- t's locks after op on x is granted to t: if none was on x, there is a new one at the end
unfoldable pub granted_own : Ob → Op → List Lock → List Lock
granted_own x op locks = cond (list_any (is_on x.0) locks) (map (taken x.0 op) locks) (locks ++ new_lock x op ∷ [])

-- another's lock after a lock on x with these operations is granted: if it is on x and conflicts, it is suspended
unfoldable pub suspended : ℕ → OpSet → Lock → Lock
suspended x ops lock = cond (is_on x lock && both_conflict lock.ops ops) (record lock { granted = false }) lock

-- another's lock on an object after one with these operations is granted on it: if they conflict, it is suspended
unfoldable pub paused : OpSet → Lock → Lock
paused ops lock = cond (both_conflict lock.ops ops) (record lock { granted = false }) lock

-- ---- what a hand-over changes
-- whether the lock is on an object of the set
unfoldable pub moved : ObSet → Lock → Bool
moved set lock = in_set set lock.object.0

-- the operations of both
unfoldable pub both_ops : OpSet → OpSet → OpSet
both_ops ops others = op_set (ops.read || others.read) (ops.write || others.write) (ops.add || others.add)

-- the operations that these locks carry on x
unfoldable pub ops_on : ℕ → List Lock → OpSet
ops_on x locks = op_set (list_any (carries_on x Op'.Read) locks) (list_any (carries_on x Op'.Write) locks) (list_any (carries_on x Op'.Add) locks)

-- a lock of the taker's after the giver's locks came: if one of them is on its object, it carries the operations of
-- both, and is suspended
unfoldable pub merged : List Lock → Lock → Lock
merged given lock = cond (list_any (is_on lock.object.0) given) (record lock { ops = both_ops lock.ops (ops_on lock.object.0 given); granted = false }) lock

-- the locks that the giver keeps
unfoldable pub left : ObSet → List Lock → List Lock
left set locks = filter (λ (lock : Lock). not (moved set lock)) locks

-- the taker's locks after the giver's locks came: those on objects that the taker has no lock on are at the end
unfoldable pub with_moved : List Lock → List Lock → List Lock
with_moved given locks = map (merged given) locks ++ filter (λ (lock : Lock). not (list_any (is_on lock.object.0) locks)) given
