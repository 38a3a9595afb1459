use Rattle.std.proofs.Common.{rules}
use Rattle.asset_sources.proofs.ReadLemmas.{alone_read}
use Rattle.asset_sources.proofs.source_walk.SourceWalk.pass.Goals as goal

pub returns-clause-passed : goal.returns-clause-passed
returns-clause-passed c = search rules

pub returns-clause-alone : goal.returns-clause-alone
returns-clause-alone c = alone_read c.args.self.now.history c.args.self.now.passed _ (rw (← c.self.view_is) c.len.ensures.legal) (rw (← c.self.view_is) c.in_ok-found.ensures.read)
