use Rattle.std.proofs.Common.{sym, ◌∙◌, rules}
use Rattle.asset_permits.specs.Valid.{descriptors_of}
use Rattle.asset_permits.proofs.ArrowLaws.{closed_allows}
use Rattle.asset_permits.proofs.OpenLemmas.{none_opens}
use Rattle.asset_permits.proofs.table.SeatedPermits.is_allower.Goals as goal

pub returns-then-self-clause-allowed : goal.returns-then-self-clause-allowed
returns-then-self-clause-allowed c = search rules

pub returns-clause-allowed : goal.returns-clause-allowed
returns-clause-allowed c =
    let inside = c.self.inside in
    rw (← c.self.view_is)
    (rw (← c.self.view_is) at c.is_marked.ensures.leads
    ∙ sym (closed_allows (descriptors_of inside.permits.items) c.args.x.0 c.args.op (λ u. none_opens inside.may_open inside.permits c.if-self.false c.self.invariant.1 u c.args.x.0 c.args.op) c.args.giver.t.0 c.args.taker.t.0))
