use Rattle.std.proofs.Common.{[], sym, ap, ◌∙◌, subst}
use Rattle.std.specs.Prelude.{IfOk}
use Rattle.asset_names.specs.Sets.{HasNoDouble}
use Rattle.asset_names.specs.Steps.{Opening, applied, objects_of}
use Rattle.asset_laws.specs.Renumbered.{renumbered, zeroed}
use Rattle.asset_ends.specs.Shows.{Shows}
use Rattle.asset_ends.specs.Standing.{values_of}
use Rattle.asset_sources.proofs.WalkLemmas.{objects_zeroed}
use Rattle.asset_sources.proofs.walking.tables_before.Goals as goal

pub open_distinct-requires : goal.open_distinct-requires
open_distinct-requires c =
    let opening = c.args.history.now.opening in
    let given = c.deref.ensures.value ∙ c.in_ok-opening.ensures ∙ ap zeroed c.opening.ensures.given in
    record { distinct = subst (λ (o : Opening). HasNoDouble (objects_of o)) (sym given) (subst HasNoDouble (sym (objects_zeroed opening)) c.opening.ensures.different) }

pub returns : goal.returns
unfolding applied renumbered
returns c =
    let given = c.deref.ensures.value ∙ c.in_ok-opening.ensures ∙ ap zeroed c.opening.ensures.given in
    subst (λ (o : Opening). IfOk c.open_distinct.result (λ tables. Shows o [] (values_of tables))) given c.open_distinct.ensures.shows
