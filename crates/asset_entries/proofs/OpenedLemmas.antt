-- The step of a permit to anybody is found by its set.
use Rattle.std.proofs.Common.{◌≡◌, List, [], ◌∷◌, ◌++◌, refl, None}
use Rattle.asset_names.specs.declared.names.Txn.{Txn}
use Rattle.asset_names.specs.declared.sets.ObSet.{ObSet}
use Rattle.asset_names.specs.declared.sets.ObSet.TheVariants.{All, Listed}
use Rattle.asset_names.specs.declared.replies.Reply.{Reply}
use Rattle.asset_names.specs.OpSets.{OpSet}
use Rattle.asset_names.specs.Groups.{actor, partner}
use Rattle.asset_entries.specs.Committing.{committer}
use Rattle.asset_entries.specs.StoredSets.{StoredSet}
use Rattle.asset_entries.specs.Stored.{opened_step, sets_after}

-- it acts on the giver alone
pub opened_acts : (giver : Txn) (obs : ObSet) (ops : OpSet) → (actor (opened_step giver obs ops) ≡ giver) × (partner (opened_step giver obs ops) ≡ giver)
unfolding opened_step actor partner
opened_acts giver All ops = (refl, refl)
opened_acts giver (Listed obs) ops = (refl, refl)

-- it commits nobody
pub opened_commits : (giver : Txn) (obs : ObSet) (ops : OpSet) (reply : Reply) → committer (opened_step giver obs ops) reply ≡ None
unfolding opened_step committer
opened_commits giver All ops reply = refl
opened_commits giver (Listed obs) ops reply = refl

-- its set is stored
pub opened_sets : (giver : Txn) (obs : ObSet) (ops : OpSet) (sets : List StoredSet) → sets_after (opened_step giver obs ops) sets ≡ sets ++ record { obs = obs } ∷ []
unfolding opened_step sets_after
opened_sets giver All ops sets = refl
opened_sets giver (Listed obs) ops sets = refl
