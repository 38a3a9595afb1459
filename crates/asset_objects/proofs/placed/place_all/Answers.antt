use Rattle.std.proofs.Common.{◌≡◌, pos, get_or, take, refl, sym, ap, ◌∙◌, subst, w64, to_z, of_z, arith}
use Rattle.std.specs.Prelude.{ℤ}
use Rattle.std.proofs.lemmas.Int.{to_z-of_z}
use Rattle.std.proofs.lemmas.List.{take_more}
use Rattle.asset_names.specs.declared.names.Ob.{Ob}
use Rattle.asset_names.specs.Steps.{Opening, objects_of}
use Rattle.asset_names.specs.Sets.{HasNoDouble, twice}
use Rattle.asset_records.specs.Listed.{lists_in}
use Rattle.asset_objects.specs.Placed.{IsOpened, word}
use Rattle.asset_objects.proofs.PlacedLemmas.{opened_nothing, opened_more, new_pair}
use Rattle.asset_objects.proofs.placed.place_all.Goals as goal

pub pairs-init : goal.pairs-init
unfolding HasNoDouble twice
pairs-init c = record { placed = opened_nothing _ _ _ c.in-Ok.ensures.empty c.new.ensures.items c.new-2.ensures.lists; len = c.new-2.ensures.len; tied = c.new-2.ensures.tied; different = λ m. refl }

pub pairs-preserved : goal.pairs-preserved
pairs-preserved c =
    let opening = c.args.opening.now in
    let pair : Ob × ℤ = get_or opening c.pairs.x-index (record { 0 = 0 }, pos 0) in
    let fits : to_z w64 (of_z w64 pair.1) ≡ pair.1 = grind (arith, to_z-of_z) in
    let added = rw fits at c.if-not-add.ensures.values in
    let more = take_more opening c.pairs.x-index (record { 0 = 0 }, pos 0) (omega arith) in
    record {
      placed = subst (λ (front : Opening). IsOpened front c.add.new.self.objects.keys c.add.new.self.values.items (lists_in c.add.new.self.records)) (sym more)
          (opened_more (take c.pairs.x-index opening) pair _ c.add.new.self.objects.keys _ c.add.new.self.values.items _ (lists_in c.add.new.self.records) c.pairs.invariant.placed c.if-not-add.ensures.objects added c.if-not-add.ensures.records (ap word (sym fits) ∙ c.if-not-add.ensures.fits ∙ fits));
      len = omega (arith, c.if-not-add.ensures.few.items, c.pairs.invariant.len);
      tied = λ seats nobody. c.if-not-add.ensures.tied seats (c.pairs.invariant.tied seats nobody);
      different = subst (λ (front : Opening). HasNoDouble (objects_of front)) (sym more) (new_pair (take c.pairs.x-index opening) pair _ c.pairs.invariant.placed.named c.if-not-add.ensures.different c.pairs.invariant.different);
    }
