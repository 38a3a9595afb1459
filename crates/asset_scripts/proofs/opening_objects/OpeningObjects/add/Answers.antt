use Rattle.std.proofs.Common.{not, refl, sym, ap, ◌∙◌}
use Rattle.std.proofs.lemmas.Bool.{not-true}
use Rattle.asset_names.specs.Steps.{Opening}
use Rattle.asset_names.specs.Operations.{exists}
use Rattle.asset_scripts.proofs.OpeningLemmas.{found_exists, no_double_more}
use Rattle.asset_scripts.proofs.opening_objects.OpeningObjects.add.Goals as goal

pub returns-in-Ok-true-clause-added : goal.returns-in-Ok-true-clause-added
returns-in-Ok-true-clause-added c =
    let fields = c.self.inside in
    let found = found_exists _ c.args.object.0.0 (λ y. refl) fields.objects.keys fields.pairs.items c.self.invariant in
    sym c.in-Ok-true.field-0-test ∙ c.in-Ok-true.ensures.added ∙ ap not (found ∙ ap (λ (opening : Opening). exists opening c.args.object.0.0) c.self.view_is)

pub returns-in-Ok-true-clause-different : goal.returns-in-Ok-true-clause-different
returns-in-Ok-true-clause-different c = λ none.
    let fields = c.self.inside in
    let found = found_exists _ c.args.object.0.0 (λ y. refl) fields.objects.keys fields.pairs.items c.self.invariant in
    let new = not-true _ (sym c.in-Ok-true.ensures.added ∙ c.in-Ok-true.field-0-test) in
    rw (c.push_reserved.ensures.items, c.in-Ok.ensures.items, c.self.view_is) (no_double_more c.args.self.now c.args.object (sym (ap (λ (opening : Opening). exists opening c.args.object.0.0) c.self.view_is) ∙ sym found ∙ new) none)

pub returns-in-Ok-false-clause-added : goal.returns-in-Ok-false-clause-added
returns-in-Ok-false-clause-added c =
    let fields = c.self.inside in
    let found = found_exists _ c.args.object.0.0 (λ y. refl) fields.objects.keys fields.pairs.items c.self.invariant in
    sym c.in-Ok-false.field-0-test ∙ c.in-Ok-false.ensures.added ∙ ap not (found ∙ ap (λ (opening : Opening). exists opening c.args.object.0.0) c.self.view_is)
