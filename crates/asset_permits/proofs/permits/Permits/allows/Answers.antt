use Rattle.std.proofs.Common.{◌≡◌, ◌∙◌, sym, ap}
use Rattle.std.proofs.lemmas.Bool.{eqb-true}
use Rattle.asset_permits.specs.Descriptors.{allows_by}
use Rattle.asset_permits.proofs.ArrowLaws.{allows_itself}
use Rattle.asset_permits.proofs.SlotLemmas.{are_different}
use Rattle.asset_permits.proofs.permits.Permits.allows.Goals as goal

pub returns-then-eq-clause-allowed : goal.returns-then-eq-clause-allowed
returns-then-eq-clause-allowed c =
    let same : c.args.giver.0 ≡ c.args.taker.0 = eqb-true c.args.giver.0 c.args.taker.0 (sym c.eq.ensures ∙ c.if-eq.true) in
    c.if-eq.true ∙ sym (allows_itself c.args.self.now c.args.giver.0 c.args.x.0 c.args.op) ∙ ap (λ t. allows_by c.args.self.now c.args.giver.0 t c.args.x.0 c.args.op) same

pub returns-then-eq-clause-different : goal.returns-then-eq-clause-different
returns-then-eq-clause-different c = rw (← c.self.view_is) (are_different c.self.inside.table.permits.items c.self.invariant.0.single)

pub returns-else-eq-clause-different : goal.returns-else-eq-clause-different
returns-else-eq-clause-different c = rw (← c.self.view_is) (are_different c.self.inside.table.permits.items c.self.invariant.0.single)
