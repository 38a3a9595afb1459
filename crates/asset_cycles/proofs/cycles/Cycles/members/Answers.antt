use Rattle.std.proofs.Common.{◌∙◌}
use Rattle.asset_cycles.proofs.MemberLemmas.{bucket_members}
use Rattle.asset_cycles.proofs.cycles.Cycles.members.Goals as goal

pub returns : goal.returns
returns c = rw (← c.self.view_is) (c.bucket.ensures ∙ bucket_members c.self.inside.labels.items c.self.inside.members c.args.label c.self.invariant.in_buckets c.self.invariant.below)
