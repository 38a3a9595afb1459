use Rattle.asset_lanes.proofs.LawLemmas.{has_one_mark, has_no_mark, none_past}
use Rattle.asset_lanes.proofs.ArrowLemmas.{each_goes_to_source, has_source_arrow}
use Rattle.asset_lanes.proofs.laws.pictures_mark_operations.Goals as goal

pub returns-clause-marked : goal.returns-clause-marked
returns-clause-marked c = has_one_mark

pub returns-clause-unmarked : goal.returns-clause-unmarked
returns-clause-unmarked c = has_no_mark

pub returns-clause-past : goal.returns-clause-past
returns-clause-past c = none_past

pub returns-clause-sources : goal.returns-clause-sources
returns-clause-sources c = each_goes_to_source

pub returns-clause-drawn : goal.returns-clause-drawn
returns-clause-drawn c = has_source_arrow
