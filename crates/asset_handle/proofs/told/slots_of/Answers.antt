use Rattle.std.proofs.Common.{refl, sym, ◌∙◌, ap, ◌++◌, [], ◌∷◌, arith, get_or}
use Rattle.std.proofs.lemmas.List.{take_more_set, map_more, length-set}
use Rattle.asset_names.specs.declared.names.Ob.{Ob}
use Rattle.asset_names.specs.Sets.{no_object_name, numbers}
use Rattle.asset_handle.proofs.told.slots_of.Goals as goal

pub objects-init : goal.objects-init
unfolding numbers
objects-init c = record { so_far = refl; long = refl }

pub objects-preserved : goal.objects-preserved
unfolding numbers
objects-preserved c =
    let here = c.objects-test.true in
    let n = (get_or c.args.objects.now c.objects.i no_object_name).0 in
    record {
      so_far = take_more_set c.objects.slots c.objects.i n (omega (arith, here, c.requires, c.objects.invariant.long)) ∙ ap (λ xs. xs ++ n ∷ []) c.objects.invariant.so_far ∙ sym (map_more (λ (x : Ob). x.0) c.args.objects.now c.objects.i no_object_name here);
      long = length-set c.objects.slots c.objects.i n ∙ c.objects.invariant.long;
    }
