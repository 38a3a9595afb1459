use Rattle.std.proofs.Common.{rules}
use Rattle.asset_bodies.proofs.agent.Agent.ask.Goals as goal

pub returns-in_ok-reply-in-None-clause-asked : goal.returns-in_ok-reply-in-None-clause-asked
returns-in_ok-reply-in-None-clause-asked g c = search rules
