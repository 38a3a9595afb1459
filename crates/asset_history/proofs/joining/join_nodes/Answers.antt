use Rattle.std.proofs.Common.{ap}
use Rattle.asset_name_groups.specs.NamesInGroups.{NamesInGroups, with_join}
use Rattle.asset_history.proofs.LabelLemmas.{joined_nodes, joined_one, grown_nodes}
use Rattle.asset_history.proofs.joining.join_nodes.Goals as goal

pub returns-clause-joined : goal.returns-clause-joined
returns-clause-joined c = λ entries together. rw c.join.ensures (joined_nodes c.args.groups.now c.laws.ensures c.args.i c.args.j c.requires.first c.requires.second entries together)

pub returns-clause-grown : goal.returns-clause-grown
returns-clause-grown c = rw c.join.ensures (grown_nodes c.args.groups.now c.laws.ensures c.args.i c.args.j c.requires.first c.requires.second)

pub returns-clause-one : goal.returns-clause-one
returns-clause-one c = rw c.join.ensures (joined_one c.args.groups.now c.laws.ensures c.args.i c.args.j c.requires.first c.requires.second)

pub returns-clause-names : goal.returns-clause-names
unfolding with_join
returns-clause-names c = ap (λ (groups : NamesInGroups). groups.names) c.join.ensures

pub returns-clause-room : goal.returns-clause-room
unfolding with_join
returns-clause-room c = ap (λ (groups : NamesInGroups). groups.room) c.join.ensures
