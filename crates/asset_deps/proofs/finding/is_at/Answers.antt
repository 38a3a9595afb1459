use Rattle.std.proofs.Common.{◌≡◌, Some, sym, ap, ◌∙◌}
use Rattle.std.proofs.lemmas.Bool.{true≢false}
use Rattle.asset_deps.specs.Dependencies.{Dependency, same_dependency}
use Rattle.asset_deps.proofs.LinkLemmas.{same_is, same_self}
use Rattle.asset_deps.proofs.finding.is_at.Goals as goal

pub returns-in-Some-clause-found : goal.returns-in-Some-clause-found
returns-in-Some-clause-found c = λ is. sym c.in-Some.ensures ∙ ap Some (same_is c.in-Some.link.now c.args.sought.now (sym c.is_same.ensures ∙ is))

pub returns-in-Some-clause-absent : goal.returns-in-Some-clause-absent
returns-in-Some-clause-absent c = λ other there.
    let both : Some c.in-Some.link.now ≡ Some c.args.sought.now = c.in-Some.ensures ∙ there in
    let same : c.in-Some.link.now ≡ c.args.sought.now = cc both in
    true≢false (sym (same_self c.args.sought.now) ∙ ap (λ (d : Dependency). same_dependency d c.args.sought.now) (sym same) ∙ sym c.is_same.ensures ∙ other)
