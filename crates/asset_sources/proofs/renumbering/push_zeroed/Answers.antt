use Rattle.std.proofs.Common.{◌≡◌, ◌++◌, ◌∷◌, [], true, get_or, not, sym, ap, ◌∙◌}
use Rattle.std.specs.Prelude.{ℤ, pos, is_ok}
use Rattle.std.proofs.lemmas.List.{map_more}
use Rattle.asset_names.specs.declared.names.Ob.{Ob}
use Rattle.asset_names.specs.Steps.{Opening}
use Rattle.asset_laws.specs.Renumbered.{zeroed}
use Rattle.asset_sources.proofs.renumbering.push_zeroed.Goals as goal

pub objects-init : goal.objects-init
unfolding zeroed
objects-init c = c.requires.empty

pub objects-preserved : goal.objects-preserved
unfolding zeroed
objects-preserved c =
    let opening = c.args.opening.now in
    let first : Ob × ℤ = (record { 0 = 0 }, pos 0) in
    let given : Ob × ℤ = get_or opening c.objects.given-index first in
    let pushed : is_ok c.push.result ≡ true = c.is_err.ensures.negation ∙ ap not c.if-is_err.false in
    (rw pushed at c.push.ensures.items)
    ∙ ap (λ (l : Opening). l ++ (given.0, pos 0) ∷ []) c.objects.invariant
    ∙ sym (map_more {Y = Ob × ℤ} (λ (given : Ob × ℤ). (given.0, pos 0)) opening c.objects.given-index first c.objects-test.true)
