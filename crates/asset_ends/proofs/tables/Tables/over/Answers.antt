use Rattle.std.proofs.Common.{◌++◌, List, ap, ◌∙◌}
use Rattle.asset_names.specs.declared.names.Ob.{Ob}
use Rattle.asset_objects.proofs.PlacedLemmas.{number_named}
use Rattle.asset_ends.proofs.ShowsLemmas.{opened_shows}
use Rattle.asset_ends.proofs.EnrolledLemmas.{nobody_enrolled, nobody_seated}
use Rattle.asset_ends.proofs.StandingLemmas.{stand_as}
use Rattle.asset_ends.proofs.tables.Tables.over.Goals as goal

pub invariant_of-result : goal.invariant_of-result
invariant_of-result c = record {
  locks = nobody_enrolled _ _ c.new-3.ensures (c.add_objects.ensures.rows _ ∙ c.new-locks.ensures.rows _);
  seats = nobody_seated _ _ c.new-3.ensures c.new.ensures.seats;
  tied = record { objects = c.requires _ c.new.ensures.seats; locks = c.add_objects.ensures.tied _ (c.new-locks.ensures.tied _ c.new.ensures.seats); permits = c.new-2.ensures.tied _ c.new.ensures.seats; deps = c.new-4.ensures.tied _ c.new.ensures.seats; numbers = c.in_ok-add_objects.ensures.added ∙ ap (λ (l : List Ob). l ++ c.objects.result.now) c.new-locks.ensures.objects ∙ c.objects.ensures };
}

pub returns-clause-shows : goal.returns-clause-shows
returns-clause-shows c = λ opening at_first. stand_as opening _ _ _ _ _ _ _ c.new-3.ensures at_first (c.add_objects.ensures.rows _ ∙ c.new-locks.ensures.rows _) c.new-2.ensures.permits c.new-4.ensures.dependencies (opened_shows opening)

pub returns-clause-numbers : goal.returns-clause-numbers
returns-clause-numbers c = λ x. number_named c.args.objects x
