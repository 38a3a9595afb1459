use Rattle.std.proofs.Common.{ℕ, sym, ap, arith, ◌∙◌}
use Rattle.std.proofs.lemmas.Grind.{common_steps}
use Rattle.asset_lists.specs.Placed.{place_at}
use Rattle.asset_lists.proofs.AtLemmas.{swapped_same, unswapped}
use Rattle.asset_lists.proofs.moves.swap.Goals as goal

pub returns-then-p-q-clause-swapped : goal.returns-then-p-q-clause-swapped
returns-then-p-q-clause-swapped c = unswapped c.args.p c.args.q c.args.keys.now c.if-p-q.true

pub returns-then-p-q-clause-moved : goal.returns-then-p-q-clause-moved
returns-then-p-q-clause-moved c = λ i k at. ap (λ (n : ℕ). record (place_at c.args.places.now.items k) { position = n }) (c.requires.positions i k at ∙ sym (swapped_same c.args.p c.args.q i c.if-p-q.true))

pub returns-clause-moved : goal.returns-clause-moved
returns-clause-moved c = grind (arith, common_steps)
