use Rattle.std.proofs.Common.{rules}
use Rattle.asset_bodies.proofs.agent.Agent.into_parts.Goals as goal

pub returns-clause-session : goal.returns-clause-session
returns-clause-session c = search rules
