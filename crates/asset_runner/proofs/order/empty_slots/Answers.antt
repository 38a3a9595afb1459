use Rattle.std.proofs.Common.{◌++◌, ◌∷◌, [], None, ap, ◌∙◌, arith}
use Rattle.asset_runner.proofs.ArrivedLemmas.{nones_len, nones_more}
use Rattle.asset_runner.proofs.order.empty_slots.Goals as goal

pub push_reserved-requires : goal.push_reserved-requires
push_reserved-requires g c = omega (arith, nones_len c.jobs.slots.items c.jobs.i c.jobs.invariant.0, c.jobs.slots.ok, c.jobs.invariant.1)

pub jobs-preserved : goal.jobs-preserved
jobs-preserved g c = (
  c.push_reserved.ensures.items ∙ (ap (λ l. l ++ None ∷ []) c.jobs.invariant.0 ∙ nones_more _ c.jobs.i),
  omega (arith, c.push_reserved.ensures.capacity, c.jobs.invariant.1),
)
