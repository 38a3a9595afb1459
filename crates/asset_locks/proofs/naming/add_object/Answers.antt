use Rattle.std.proofs.Common.{◌++◌, ◌∷◌, [], Bool, cond, List, Some, sym, ap, ◌∙◌, arith}
use Rattle.std.proofs.lemmas.Grind.{common_steps}
use Rattle.asset_names.specs.declared.names.Ob.{Ob}
use Rattle.asset_names.specs.Numbered.{number_in}
use Rattle.asset_names.proofs.NumberLemmas.{number_new, unnumbered}
use Rattle.asset_locks.proofs.naming.add_object.Goals as goal

pub returns-in-Ok-add_object-clause-objects : goal.returns-in-Ok-add_object-clause-objects
returns-in-Ok-add_object-clause-objects c =
    let keys = c.args.objects.now.keys in
    c.in-Ok-add_object.ensures.added
    ∙ ap (λ (l : List Ob). l ++ c.args.x ∷ []) c.requires.same
    ∙ sym (c.in-Ok.ensures.keys ∙ ap (λ (b : Bool). cond b keys (keys ++ c.args.x ∷ [])) (unnumbered keys c.args.x c.requires.without))

pub returns-in-Ok-add_object-clause-number : goal.returns-in-Ok-add_object-clause-number
returns-in-Ok-add_object-clause-number c =
    let keys = c.args.objects.now.keys in
    ap (λ (l : List Ob). number_in l c.args.x.0) (c.in-Ok-add_object.ensures.added ∙ ap (λ (l : List Ob). l ++ c.args.x ∷ []) c.requires.same)
    ∙ number_new keys c.args.x c.requires.without
    ∙ ap Some (sym c.len-number.ensures.len)

pub returns-in-Err-add_object-clause-objects : goal.returns-in-Err-add_object-clause-objects
returns-in-Err-add_object-clause-objects c = grind (arith, common_steps)
