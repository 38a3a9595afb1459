-- What the step of a permit to anybody is found to do, by its set.
use Rattle.std.proofs.Common.{◌≡◌, refl, None}
use Rattle.asset_names.specs.declared.names.Txn.{Txn}
use Rattle.asset_names.specs.declared.sets.ObSet.{ObSet}
use Rattle.asset_names.specs.declared.sets.ObSet.TheVariants.{All, Listed}
use Rattle.asset_names.specs.declared.replies.Reply.{Reply}
use Rattle.asset_names.specs.OpSets.{OpSet}
use Rattle.asset_entries.specs.Operating.{operator_of}
use Rattle.asset_entries.specs.Stored.{opened_step}

-- it is no operation
pub opened_operates : (giver : Txn) (obs : ObSet) (ops : OpSet) (reply : Reply) → operator_of (opened_step giver obs ops) reply ≡ None
unfolding opened_step operator_of
opened_operates giver All ops reply = refl
opened_operates giver (Listed obs) ops reply = refl
