-- How the entries of a history are stored: a reply as a tag, since the step has what the reply is about; and the set of
-- objects of a permit or a delegation, which is large, in a list of sets, with its index in the entry.
use Rattle.std.specs.Prelude.{◌≡◌, ℕ, suc, ℤ, pos, ◌≤◌, ◌==◌, Bool, true, cond, nat_lt, List, [], ◌∷◌, ◌++◌, length, map, reverse, slice_get, unwrap_or}
use Rattle.std.specs.List.{list_all}
use Rattle.asset_names.specs.declared.names.Txn.{Txn}
use Rattle.asset_names.specs.declared.names.Ob.{Ob}
use Rattle.asset_names.specs.declared.sets.ObSet.{ObSet}
use Rattle.asset_names.specs.declared.sets.ObSet.TheVariants.{All, Listed}
use Rattle.asset_names.specs.declared.steps.Step.{Step}
use Rattle.asset_names.specs.declared.steps.Step.TheVariants.{Initiate, Begin, Read, Write, Add, Complete, Permit, PermitAny, Delegate, Depend, Commit, Abort, WaitFor}
use Rattle.asset_names.specs.declared.replies.Refusal.TheVariants as Refusal'
use Rattle.asset_names.specs.declared.replies.Reply.{Reply}
use Rattle.asset_names.specs.declared.replies.Reply.TheVariants as Reply'
use Rattle.asset_names.specs.Steps.{Opening, Entry, objects_of}
use Rattle.asset_names.specs.Sets.{no_object_name, HasNoDouble}
use Rattle.asset_names.specs.OpSets.{OpSet}
use Rattle.asset_names.specs.Answers.{IsLegal}
use Rattle.asset_entries.specs.declared.reply_tag.ReplyTag.{ReplyTag}
use Rattle.asset_entries.specs.declared.reply_tag.ReplyTag.TheVariants as ReplyTag'
use Rattle.asset_entries.specs.StoredSets.{StoredSet, set_or_all}
use Rattle.asset_entries.specs.declared.stored.Stored.{Stored}
use Rattle.asset_entries.specs.declared.stored.Stored.TheVariants as Stored'

-- what a reply is, without the name, the object and the value that it is about
unfoldable pub tag_of : Reply → ReplyTag
tag_of Reply'.Done = ReplyTag'.Done
tag_of (Reply'.Value v) = ReplyTag'.Value
tag_of Reply'.Committed = ReplyTag'.Committed
tag_of Reply'.Aborted = ReplyTag'.Aborted
tag_of (Reply'.Refused (Refusal'.Unknown t)) = ReplyTag'.Unknown
tag_of (Reply'.Refused (Refusal'.Ended t)) = ReplyTag'.Ended
tag_of (Reply'.Refused (Refusal'.NotRunning t)) = ReplyTag'.NotRunning
tag_of (Reply'.Refused (Refusal'.Taken t)) = ReplyTag'.Taken
tag_of (Reply'.Refused (Refusal'.Begun t)) = ReplyTag'.Begun
tag_of (Reply'.Refused (Refusal'.NoObject x)) = ReplyTag'.NoObject
tag_of (Reply'.Refused Refusal'.Same) = ReplyTag'.Same
tag_of (Reply'.Refused Refusal'.Cycle) = ReplyTag'.Cycle
tag_of (Reply'.Refused (Refusal'.TooLate t)) = ReplyTag'.TooLate

-- the value that was read, and 0 of another reply
unfoldable pub value_read : Reply → ℤ
value_read (Reply'.Value v) = v
value_read reply = pos 0

-- the reply with this tag about a name, an object and a value
unfoldable pub reply_about : Txn → Ob → ℤ → ReplyTag → Reply
reply_about t x v ReplyTag'.Done = Reply'.Done
reply_about t x v ReplyTag'.Value = Reply'.Value v
reply_about t x v ReplyTag'.Committed = Reply'.Committed
reply_about t x v ReplyTag'.Aborted = Reply'.Aborted
reply_about t x v ReplyTag'.Unknown = Reply'.Refused (Refusal'.Unknown t)
reply_about t x v ReplyTag'.Ended = Reply'.Refused (Refusal'.Ended t)
reply_about t x v ReplyTag'.NotRunning = Reply'.Refused (Refusal'.NotRunning t)
reply_about t x v ReplyTag'.Taken = Reply'.Refused (Refusal'.Taken t)
reply_about t x v ReplyTag'.Begun = Reply'.Refused (Refusal'.Begun t)
reply_about t x v ReplyTag'.NoObject = Reply'.Refused (Refusal'.NoObject x)
reply_about t x v ReplyTag'.Same = Reply'.Refused Refusal'.Same
reply_about t x v ReplyTag'.Cycle = Reply'.Refused Refusal'.Cycle
reply_about t x v ReplyTag'.TooLate = Reply'.Refused (Refusal'.TooLate t)
reply_about t x v ReplyTag'.SecondUnknown = Reply'.Refused (Refusal'.Unknown t)
reply_about t x v ReplyTag'.SecondEnded = Reply'.Refused (Refusal'.Ended t)

-- the reply to a step that operates on nothing
unfoldable pub reply_of_name : Txn → ReplyTag → Reply
reply_of_name t tag = reply_about t no_object_name (pos 0) tag

-- the tag of a reply to a step of two transactions, by the first of them: it says which of the two a refusal is about
unfoldable pub tag_of_two : Txn → Reply → ReplyTag
tag_of_two first (Reply'.Refused (Refusal'.Unknown t)) = cond (t.0 == first.0) ReplyTag'.Unknown ReplyTag'.SecondUnknown
tag_of_two first (Reply'.Refused (Refusal'.Ended t)) = cond (t.0 == first.0) ReplyTag'.Ended ReplyTag'.SecondEnded
tag_of_two first reply = tag_of reply

-- the reply with this tag to a step of two transactions, about an object
unfoldable pub reply_of_two : Txn → Txn → Ob → ReplyTag → Reply
reply_of_two first second x ReplyTag'.SecondUnknown = Reply'.Refused (Refusal'.Unknown second)
reply_of_two first second x ReplyTag'.SecondEnded = Reply'.Refused (Refusal'.Ended second)
reply_of_two first second x tag = reply_about first x (pos 0) tag

-- the index of the first x in a list; the length of the list if x is not in it
unfoldable pub position : Ob → List Ob → ℕ
position x [] = 0
position x (y ∷ objects) = cond (y.0 == x.0) 0 (suc (position x objects))

-- the index in its set of the object that a refusal says is missing, and 0 for any other reply
unfoldable pub missing_at : ObSet → Reply → ℕ
missing_at (Listed objects) (Reply'.Refused (Refusal'.NoObject x)) = position x objects
missing_at obs reply = 0

-- the object at an index of a list; object 0 past its end, and for the set of all objects
unfoldable pub object_at : ObSet → ℕ → Ob
object_at All index = no_object_name
object_at (Listed objects) index = unwrap_or (slice_get objects index) no_object_name

-- an entry as it is stored, if `count` sets are stored
unfoldable pub stored_as : ℕ → Step → Reply → Stored
stored_as count (Initiate t parent) reply = Stored'.Initiate (tag_of reply) t parent
stored_as count (Begin t) reply = Stored'.Begin (tag_of reply) t
stored_as count (Read t x) reply = Stored'.Read (tag_of reply) t x (value_read reply)
stored_as count (Write t x v) reply = Stored'.Write (tag_of reply) t x v
stored_as count (Add t x d) reply = Stored'.Add (tag_of reply) t x d
stored_as count (Complete t) reply = Stored'.Complete (tag_of reply) t
stored_as count (Permit giver taker obs ops) reply = Stored'.Permit (tag_of_two giver reply) (missing_at obs reply) ops count giver taker
stored_as count (PermitAny giver obs ops) reply = Stored'.PermitAny (tag_of_two giver reply) (missing_at (Listed obs) reply) ops count giver
stored_as count (Delegate giver taker obs) reply = Stored'.Delegate (tag_of_two giver reply) (missing_at obs reply) count giver taker
stored_as count (Depend kind a b) reply = Stored'.Depend (tag_of_two a reply) kind a b
stored_as count (Commit t) reply = Stored'.Commit (tag_of reply) t
stored_as count (Abort t) reply = Stored'.Abort (tag_of reply) t
stored_as count (WaitFor t) reply = Stored'.WaitFor (tag_of reply) t

-- the stored sets after an entry
unfoldable pub sets_after : Step → List StoredSet → List StoredSet
sets_after (Permit giver taker obs ops) sets = sets ++ record { obs = obs } ∷ []
sets_after (PermitAny giver obs ops) sets = sets ++ record { obs = Listed obs } ∷ []
sets_after (Delegate giver taker obs) sets = sets ++ record { obs = obs } ∷ []
sets_after step sets = sets

-- the entry of a permit by its set
unfoldable pub permit_entry : ReplyTag → ℕ → OpSet → Txn → Txn → ObSet → Entry
permit_entry tag missing ops giver taker obs = (Permit giver taker obs ops, reply_of_two giver taker (object_at obs missing) tag)

-- the step of a permit to anybody by its set, which is a list: no entry that a history keeps has the last case
unfoldable pub opened_step : Txn → ObSet → OpSet → Step
opened_step giver (Listed obs) ops = PermitAny giver obs ops
opened_step giver All ops = Permit giver giver All ops

-- the entry of a permit to anybody by its set
unfoldable pub open_entry : ReplyTag → ℕ → OpSet → Txn → ObSet → Entry
open_entry tag missing ops giver obs = (opened_step giver obs ops, reply_of_two giver giver (object_at obs missing) tag)

-- and of a delegation
unfoldable pub delegate_entry : ReplyTag → ℕ → Txn → Txn → ObSet → Entry
delegate_entry tag missing giver taker obs = (Delegate giver taker obs, reply_of_two giver taker (object_at obs missing) tag)

-- the entry that is stored
unfoldable pub entry_of : List StoredSet → Stored → Entry
entry_of sets (Stored'.Initiate tag t parent) = (Initiate t parent, reply_of_name t tag)
entry_of sets (Stored'.Begin tag t) = (Begin t, reply_of_name t tag)
entry_of sets (Stored'.Read tag t x v) = (Read t x, reply_about t x v tag)
entry_of sets (Stored'.Write tag t x v) = (Write t x v, reply_about t x (pos 0) tag)
entry_of sets (Stored'.Add tag t x d) = (Add t x d, reply_about t x (pos 0) tag)
entry_of sets (Stored'.Complete tag t) = (Complete t, reply_of_name t tag)
entry_of sets (Stored'.Permit tag missing ops set giver taker) = permit_entry tag missing ops giver taker (set_or_all (slice_get sets set))
entry_of sets (Stored'.PermitAny tag missing ops set giver) = open_entry tag missing ops giver (set_or_all (slice_get sets set))
entry_of sets (Stored'.Delegate tag missing set giver taker) = delegate_entry tag missing giver taker (set_or_all (slice_get sets set))
entry_of sets (Stored'.Depend tag kind a b) = (Depend kind a b, reply_of_two a b no_object_name tag)
entry_of sets (Stored'.Commit tag t) = (Commit t, reply_of_name t tag)
entry_of sets (Stored'.Abort tag t) = (Abort t, reply_of_name t tag)
entry_of sets (Stored'.WaitFor tag t) = (WaitFor t, reply_of_name t tag)

-- a stored entry with the set at this index in place of its own, if it has one
unfoldable pub moved : ℕ → Stored → Stored
moved count (Stored'.Permit tag missing ops set giver taker) = Stored'.Permit tag missing ops count giver taker
moved count (Stored'.PermitAny tag missing ops set giver) = Stored'.PermitAny tag missing ops count giver
moved count (Stored'.Delegate tag missing set giver taker) = Stored'.Delegate tag missing count giver taker
moved count stored = stored

-- the value that a stored entry reads, writes or adds, and 0 for any other
unfoldable pub value_stored : Stored → ℤ
value_stored (Stored'.Read tag t x v) = v
value_stored (Stored'.Write tag t x v) = v
value_stored (Stored'.Add tag t x d) = d
value_stored stored = pos 0

-- the entries, newest first
unfoldable pub entries_of : List StoredSet → List Stored → List Entry
entries_of sets entries = reverse (map (entry_of sets) entries)

-- whether the set of a stored entry, if it has one, is among `count` stored sets
unfoldable pub has_set : ℕ → Stored → Bool
has_set count (Stored'.Permit tag missing ops set giver taker) = nat_lt set count
has_set count (Stored'.PermitAny tag missing ops set giver) = nat_lt set count
has_set count (Stored'.Delegate tag missing set giver taker) = nat_lt set count
has_set count stored = true

-- the same of each of the stored entries
unfoldable pub all_have_sets : ℕ → List Stored → Bool
all_have_sets count entries = list_all (has_set count) entries

-- A stored history is valid: its opening gives no object twice, its entries are legal, and their sets are there. There are no
-- more sets than entries, and no more entries than the capacity. The room that was reserved is enough for as many entries as
-- the capacity, each of which may have a set.
pub record IsValid (opening : Opening) (entries : List Stored) (sets : List StoredSet) (capacity reserved reserved_sets : ℕ) : Type 0 where
  pub different : HasNoDouble (objects_of opening)
  pub legal : IsLegal opening (entries_of sets entries)
  pub there : all_have_sets (length sets) entries ≡ true
  pub fewer : length sets ≤ length entries
  pub within : length entries ≤ capacity
  pub taken : capacity ≤ reserved
  pub taken_sets : capacity ≤ reserved_sets
