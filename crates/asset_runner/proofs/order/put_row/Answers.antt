use Rattle.std.proofs.Common.{sym, ap, ◌∙◌}
use Rattle.asset_runner.specs.Arrived.{placed}
use Rattle.asset_runner.proofs.ArrivedLemmas.{placed-snoc}
use Rattle.asset_runner.proofs.order.put_row.Goals as goal

pub row-preserved : goal.row-preserved
row-preserved g c =
    ap (λ l. placed l c.pop.new.self.items) c.put.ensures
    ∙ (sym (placed-snoc c.row.slots.items c.pop.new.self.items c.in-Some.arrival)
    ∙ (ap (placed c.row.slots.items) (sym c.in-Some.ensures.items) ∙ c.row.invariant))
