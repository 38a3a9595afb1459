use Rattle.std.proofs.Common.{sym, rules}
use Rattle.asset_permits.specs.Valid.{descriptors_of}
use Rattle.asset_permits.proofs.ArrowLaws.{closed_reaches}
use Rattle.asset_permits.proofs.OpenLemmas.{none_opens}
use Rattle.asset_permits.proofs.table.SeatedPermits.reaches_opener.Goals as goal

pub returns-then-not-self-clause-reaches : goal.returns-then-not-self-clause-reaches
returns-then-not-self-clause-reaches c =
    let inside = c.self.inside in
    rw (← c.self.view_is)
    (sym (closed_reaches (descriptors_of inside.permits.items) c.args.x.0 c.args.op (λ u. none_opens inside.may_open inside.permits c.if-not-self.true c.self.invariant.1 u c.args.x.0 c.args.op) c.args.giver.t.0))

pub returns-clause-reaches : goal.returns-clause-reaches
returns-clause-reaches c = search rules
