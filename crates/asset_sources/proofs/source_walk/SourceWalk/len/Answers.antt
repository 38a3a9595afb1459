use Rattle.std.proofs.Common.{rules}
use Rattle.asset_sources.proofs.source_walk.SourceWalk.len.Goals as goal

pub returns : goal.returns
returns c = search rules
