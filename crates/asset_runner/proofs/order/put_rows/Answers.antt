use Rattle.std.proofs.Common.{sym, ap, ◌∙◌}
use Rattle.asset_runner.specs.Arrived.{placed}
use Rattle.asset_runner.specs.Rows.{all_of}
use Rattle.asset_runner.proofs.ArrivedLemmas.{placed_row}
use Rattle.asset_runner.proofs.order.put_rows.Goals as goal

pub rows-preserved : goal.rows-preserved
rows-preserved g c =
    ap (λ l. placed l (all_of c.pop.new.self.items)) c.put_row.ensures
    ∙ (sym (placed_row c.rows.slots.items c.pop.new.self.items c.in-Some.row)
    ∙ (ap (λ l. placed c.rows.slots.items (all_of l)) (sym c.in-Some.ensures.items) ∙ c.rows.invariant))
