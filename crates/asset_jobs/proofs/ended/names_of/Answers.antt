use Rattle.std.proofs.Common.{rules}
use Rattle.std.proofs.lemmas.Iterator.{items_from_collect, YieldsList-from_map, YieldsList-from_slice}
use Rattle.asset_jobs.proofs.ended.names_of.Goals as goal

pub returns : goal.returns
returns c = items_from_collect _ c.collect.ensures.ran (YieldsList-from_map _ (λ job. job.0) (YieldsList-from_slice c.args.jobs.now cc) c.map.ensures.closure (λ x r q k. search rules))
