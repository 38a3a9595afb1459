-- What the tag of a reply says of whether the transaction was known.
use Rattle.std.proofs.Common.{◌≡◌, ℤ, false, refl}
use Rattle.asset_names.specs.declared.names.Txn.{Txn}
use Rattle.asset_names.specs.declared.names.Ob.{Ob}
use Rattle.asset_names.specs.declared.sets.ObSet.{ObSet}
use Rattle.asset_names.specs.declared.sets.ObSet.TheVariants.{All, Listed}
use Rattle.asset_names.specs.declared.replies.Reply.{Reply}
use Rattle.asset_names.specs.OpSets.{OpSet}
use Rattle.asset_entries.specs.declared.reply_tag.ReplyTag.{ReplyTag}
use Rattle.asset_entries.specs.declared.reply_tag.ReplyTag.TheVariants as ReplyTag'
use Rattle.asset_entries.specs.Stored.{opened_step, reply_about}
use Rattle.asset_entries.specs.Knowing.{is_of_one, is_known_by, is_known_tag, is_of_known}

pub known_about : (t : Txn) (x : Ob) (v : ℤ) (tag : ReplyTag) → is_known_tag tag ≡ is_known_by (reply_about t x v tag)
unfolding is_known_tag is_known_by reply_about
known_about t x v ReplyTag'.Done = refl
known_about t x v ReplyTag'.Value = refl
known_about t x v ReplyTag'.Committed = refl
known_about t x v ReplyTag'.Aborted = refl
known_about t x v ReplyTag'.Unknown = refl
known_about t x v ReplyTag'.Ended = refl
known_about t x v ReplyTag'.NotRunning = refl
known_about t x v ReplyTag'.Taken = refl
known_about t x v ReplyTag'.Begun = refl
known_about t x v ReplyTag'.NoObject = refl
known_about t x v ReplyTag'.Same = refl
known_about t x v ReplyTag'.Cycle = refl
known_about t x v ReplyTag'.TooLate = refl
known_about t x v ReplyTag'.SecondUnknown = refl
known_about t x v ReplyTag'.SecondEnded = refl

pub opened_is_not : (giver : Txn) (obs : ObSet) (ops : OpSet) (reply : Reply) → false ≡ is_of_known (opened_step giver obs ops) reply
unfolding opened_step is_of_known is_of_one
opened_is_not giver All ops reply = refl
opened_is_not giver (Listed obs) ops reply = refl
