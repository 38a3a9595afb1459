use Rattle.std.proofs.Common.{rules, refl, sym, ◌∙◌, ap, ◌++◌, [], ◌∷◌, arith, get_or}
use Rattle.std.proofs.lemmas.List.{take_more_set, map_more, length-set}
use Rattle.asset_handle.specs.Asked.{ob}
use Rattle.asset_handle.specs.Listed.{objects_named}
use Rattle.asset_handle.proofs.asked.named_first.Goals as goal

pub names-init : goal.names-init
unfolding objects_named
names-init c = record { so_far = refl; long = refl; named = search rules }

pub names-preserved : goal.names-preserved
unfolding objects_named
names-preserved c =
    let here = c.names-test.true in
    let x = ob (get_or c.args.names.now c.names.i 0) in
    record {
      so_far = take_more_set c.names.objects c.names.i x (omega (arith, here, c.requires, c.names.invariant.long)) ∙ ap (λ xs. xs ++ x ∷ []) c.names.invariant.so_far ∙ sym (map_more ob c.args.names.now c.names.i 0 (omega (arith, here, c.requires, c.names.invariant.named)));
      long = length-set c.names.objects c.names.i x ∙ c.names.invariant.long;
      named = c.names.invariant.named;
    }

pub returns : goal.returns
unfolding objects_named
returns c = search rules
