use Rattle.std.proofs.Common.{◌≡◌, ◌++◌, ◌∷◌, [], List, length, refl, ap, ◌∙◌, arith}
use Rattle.std.proofs.lemmas.List.{length-append}
use Rattle.asset_names.specs.declared.names.Ob.{Ob}
use Rattle.asset_names.specs.Numbered.{number_in}
use Rattle.asset_names.proofs.NumberLemmas.{number_more}
use Rattle.asset_lists.proofs.Laws.{part_same}
use Rattle.asset_lock_store.proofs.StoreLemmas.{stored_grown}
use Rattle.asset_lock_store.proofs.store.LockStore.add_object.Goals.{in-Ok-push, in-Err-push}
use Rattle.asset_lock_store.proofs.store.LockStore.add_object.Goals as goal

pub invariant_of-self : goal.invariant_of-self
invariant_of-self c =
    let inside = c.self.inside in
    stored_grown (record { locks = inside.locks; objects = inside.objects.items; by_object = inside.by_object; by_owner = inside.by_owner }) _ c.self.invariant
    (λ k. refl) (part_same inside.by_object c.add_lists.new.self c.add_lists.ensures.parts) (λ k. refl) (λ x n is. is) (omega (arith, c.self.invariant.lists, c.add_lists.ensures.more))

pub invariant_of-self-2 : goal.invariant_of-self-2
invariant_of-self-2 c =
    let inside = c.self.inside in
    elim c.match-push.branch [
      | in-Ok-push w ↦
          let items : c.push.new.self.items ≡ inside.objects.items ++ c.args.x ∷ [] = w.in-Ok-push.ensures.items in
          stored_grown (record { locks = inside.locks; objects = inside.objects.items; by_object = inside.by_object; by_owner = inside.by_owner }) _ c.self.invariant
          (λ k. refl) (part_same inside.by_object c.add_lists.new.self c.add_lists.ensures.parts) (λ k. refl)
          (λ x n is. ap (λ (l : List Ob). number_in l x) items ∙ number_more inside.objects.items c.args.x x n is)
          (omega (arith, ap (λ (l : List Ob). length l) items, length-append inside.objects.items (c.args.x ∷ []), c.in-Ok.ensures.there, c.len.ensures))
      | in-Err-push w ↦
          stored_grown (record { locks = inside.locks; objects = inside.objects.items; by_object = inside.by_object; by_owner = inside.by_owner }) _ c.self.invariant
          (λ k. refl) (part_same inside.by_object c.add_lists.new.self c.add_lists.ensures.parts) (λ k. refl) (λ x n is. ap (λ (l : List Ob). number_in l x) w.in-Err-push.ensures.items ∙ is)
          (omega (arith, c.self.invariant.lists, c.add_lists.ensures.more, ap (λ (l : List Ob). length l) w.in-Err-push.ensures.items))
    ]
