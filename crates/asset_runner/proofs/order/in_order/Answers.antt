use Rattle.std.proofs.Common.{◌++◌, ◌∷◌, [], length, sym, ap, ◌∙◌, append_assoc, arith}
use Rattle.std.proofs.lemmas.List.{length-append}
use Rattle.asset_runner.proofs.ArrivedLemmas.{somes_few, somes_more, somes_same}
use Rattle.asset_runner.proofs.order.in_order.Goals as goal

pub push_reserved-requires : goal.push_reserved-requires
push_reserved-requires g c =
    omega (arith, somes_few c.slots.yielded, ap length c.slots.invariant.0, c.slots.order.ok, ap length c.slots.invariant.1, ap length c.in-Some.ensures.steps.0, length-append c.slots.yielded c.slots.slot-iterator.rest.items, c.args.slots.ok, c.slots.invariant.2)

pub slots-preserved-in-Some-slot : goal.slots-preserved-in-Some-slot
slots-preserved-in-Some-slot g c = (
  c.push_reserved.ensures.items ∙ ap (λ l. l ++ c.in-Some-slot.arrival ∷ []) c.slots.invariant.0 ∙ sym (somes_more c.slots.yielded c.in-Some.slot c.in-Some-slot.arrival c.in-Some-slot.is),
  append_assoc c.slots.yielded (c.in-Some.slot ∷ []) c.next.new.self.rest.items ∙ ap (λ l. c.slots.yielded ++ l) (sym c.in-Some.ensures.steps.0) ∙ c.slots.invariant.1,
  omega (arith, c.push_reserved.ensures.capacity, c.slots.invariant.2),
)

pub slots-preserved : goal.slots-preserved
slots-preserved g c = (
  c.slots.invariant.0 ∙ sym (somes_same c.slots.yielded c.in-Some.slot c.in-None-slot.is),
  append_assoc c.slots.yielded (c.in-Some.slot ∷ []) c.next.new.self.rest.items ∙ ap (λ l. c.slots.yielded ++ l) (sym c.in-Some.ensures.steps.0) ∙ c.slots.invariant.1,
  c.slots.invariant.2,
)
