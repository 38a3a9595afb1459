use Rattle.asset_laws.proofs.RenumberLemmas.{renumbered_legal, value_is_source, outcome_renumbered, room_renumbered}
use Rattle.asset_laws.proofs.deletion.sources_are_read_as_numbers.Goals as goal

pub returns-clause-legal : goal.returns-clause-legal
returns-clause-legal c = renumbered_legal

pub returns-clause-read : goal.returns-clause-read
returns-clause-read c = value_is_source

pub returns-clause-outcome : goal.returns-clause-outcome
returns-clause-outcome c = outcome_renumbered

pub returns-clause-room : goal.returns-clause-room
returns-clause-room c = room_renumbered
