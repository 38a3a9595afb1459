use Rattle.std.proofs.Common.{◌≡◌, ◌∙◌, sym, ap}
use Rattle.std.proofs.lemmas.Bool.{eqb-true}
use Rattle.asset_permits.specs.Descriptors.{allows_by}
use Rattle.asset_permits.specs.Valid.{permits_in}
use Rattle.asset_permits.proofs.ArrowLaws.{allows_itself}
use Rattle.asset_permits.proofs.SlotLemmas.{are_different}
use Rattle.asset_permits.proofs.table.SeatedPermits.allows.Goals as goal

pub returns-then-eq-clause-allowed : goal.returns-then-eq-clause-allowed
returns-then-eq-clause-allowed c =
    let permits = permits_in c.args.self.now in
    let giver = c.args.giver.t.0 in
    let same : giver ≡ c.args.taker.t.0 = eqb-true giver c.args.taker.t.0 (sym c.eq.ensures ∙ c.if-eq.true) in
    c.if-eq.true ∙ sym (allows_itself permits giver c.args.x.0 c.args.op) ∙ ap (λ t. allows_by permits giver t c.args.x.0 c.args.op) same

pub returns-then-eq-clause-different : goal.returns-then-eq-clause-different
returns-then-eq-clause-different c = are_different c.args.self.now.permits.items c.requires.tied.single

pub returns-else-eq-clause-different : goal.returns-else-eq-clause-different
returns-else-eq-clause-different c = are_different c.args.self.now.permits.items c.requires.tied.single
