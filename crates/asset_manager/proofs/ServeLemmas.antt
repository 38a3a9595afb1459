-- What a step leaves of what holds of every book.
use Rattle.std.proofs.Common.{◌≡◌, [], refl, sym, subst, Ok}
use Rattle.asset_names.specs.declared.steps.Step.{Step}
use Rattle.asset_names.specs.declared.replies.Reply.{Reply}
use Rattle.asset_names.specs.declared.counts.Counts.{Counts}
use Rattle.asset_names.specs.declared.replies.Outcome.TheVariants.{Answer, Wait}
use Rattle.asset_names.specs.Steps.{Opening, applied, initiated}
use Rattle.asset_names.specs.Counted.{counts_of, ended_count, IsBelow}
use Rattle.asset_names.proofs.CountLemmas.{counts_grow}
use Rattle.asset_entries.specs.Recorded.{Recorded, opened, after, with_entry}
use Rattle.asset_core.specs.Pending.{Facility, facility_of}
use Rattle.asset_core.specs.Stepped.{IsStep}
use Rattle.asset_counts.specs.Shown.{no_counts}

-- before the first entry all counts are zeros
pub counts_of_none : counts_of [] ≡ no_counts
unfolding counts_of ended_count applied initiated
counts_of_none = refl

pub opened_is_empty : (opening : Opening) (capacity : _) → (facility_of opening capacity).history.entries ≡ []
unfolding facility_of opened
opened_is_empty opening capacity = refl

-- a wait leaves the history
pub wait_is_same : (before later : Facility) (step : Step) → IsStep before step (Ok Wait) later → later.history ≡ before.history
unfolding after
wait_is_same before later step is = is.grown

-- no answer lowers a count
pub answer_counts : (before later : Facility) (step : Step) (reply : Reply) → IsStep before step (Ok (Answer reply)) later → IsBelow (counts_of before.history.entries) (counts_of later.history.entries)
unfolding after with_entry
answer_counts before later step reply is =
    subst (λ (history : Recorded). IsBelow (counts_of before.history.entries) (counts_of history.entries)) (sym is.grown) (counts_grow (step, reply) before.history.entries)

-- what was published is below what is
pub rises_from : (first second third fourth : Counts) → first ≡ second → IsBelow second third → fourth ≡ third → IsBelow first fourth
rises_from first second third fourth a below b = rw (a, b) below
