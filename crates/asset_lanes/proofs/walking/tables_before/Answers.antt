use Rattle.std.proofs.Common.{subst, sym, []}
use Rattle.std.specs.Prelude.{IfOk}
use Rattle.asset_names.specs.Sets.{HasNoDouble}
use Rattle.asset_names.specs.Steps.{Opening, applied, objects_of}
use Rattle.asset_ends.specs.Shows.{Shows}
use Rattle.asset_ends.specs.Standing.{values_of}
use Rattle.asset_lanes.proofs.walking.tables_before.Goals as goal

pub open_distinct-requires : goal.open_distinct-requires
open_distinct-requires c = record { distinct = subst (λ (o : Opening). HasNoDouble (objects_of o)) (sym c.opening.ensures.given) c.opening.ensures.different }

pub returns : goal.returns
unfolding applied
returns c = subst (λ (o : Opening). IfOk c.open_distinct.result (λ tables. Shows o [] (values_of tables))) c.opening.ensures.given c.open_distinct.ensures.shows
