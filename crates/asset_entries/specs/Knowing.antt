-- Entries of one transaction that was known.
use Rattle.std.specs.Prelude.{Bool, true, false, ◌&&◌, Option, Some, None}
use Rattle.asset_names.specs.declared.steps.Step.{Step}
use Rattle.asset_names.specs.declared.steps.Step.TheVariants.{Begin, Read, Write, Add, Complete, Commit, Abort}
use Rattle.asset_names.specs.declared.replies.Refusal.TheVariants as Refusal'
use Rattle.asset_names.specs.declared.replies.Reply.{Reply}
use Rattle.asset_names.specs.declared.replies.Reply.TheVariants as Reply'
use Rattle.asset_names.specs.Steps.{Entry}
use Rattle.asset_entries.specs.declared.reply_tag.ReplyTag.{ReplyTag}
use Rattle.asset_entries.specs.declared.reply_tag.ReplyTag.TheVariants as ReplyTag'

-- whether the step is an operation, a begin, a complete, a commit or an abort
unfoldable pub is_of_one : Step → Bool
is_of_one (Begin t) = true
is_of_one (Read t x) = true
is_of_one (Write t x v) = true
is_of_one (Add t x d) = true
is_of_one (Complete t) = true
is_of_one (Commit t) = true
is_of_one (Abort t) = true
is_of_one step = false

-- whether the reply is not that the transaction is unknown
unfoldable pub is_known_by : Reply → Bool
is_known_by (Reply'.Refused (Refusal'.Unknown t)) = false
is_known_by reply = true

-- the same by the tag of the reply
unfoldable pub is_known_tag : ReplyTag → Bool
is_known_tag ReplyTag'.Unknown = false
is_known_tag ReplyTag'.SecondUnknown = false
is_known_tag tag = true

-- whether the step is the work, a begin or an end of one transaction, which the reply says was initiated
unfoldable pub is_of_known : Step → Reply → Bool
is_of_known step reply = is_of_one step && is_known_by reply

-- the same of an entry, if there is one
abbrev pub is_of_known_at : Option Entry → Bool
is_of_known_at None = false
is_of_known_at (Some entry) = is_of_known entry.0 entry.1
