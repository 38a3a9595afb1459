use Rattle.asset_sources.proofs.trace.Trace.len.Goals as goal

pub returns : goal.returns
returns c = rw (← c.self.view_is) c.len.ensures.len
