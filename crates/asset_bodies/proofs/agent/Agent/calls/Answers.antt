use Rattle.std.proofs.Common.{rules}
use Rattle.asset_bodies.proofs.agent.Agent.calls.Goals as goal

pub returns : goal.returns
returns c = search rules
