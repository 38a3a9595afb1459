use Rattle.std.proofs.Common.{rules}
use Rattle.asset_bodies.proofs.agent.Agent.ask_once.Goals as goal

pub returns-clause-if_room : goal.returns-clause-if_room
returns-clause-if_room g c = search rules
