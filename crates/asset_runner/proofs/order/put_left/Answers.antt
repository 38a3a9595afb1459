use Rattle.std.proofs.Common.{◌∙◌}
use Rattle.asset_runner.specs.Arrived.{left_at}
use Rattle.asset_runner.proofs.ArrivedLemmas.{placed_last}
use Rattle.asset_runner.proofs.order.put_left.Goals as goal

pub left-preserved : goal.left-preserved
left-preserved g c = placed_last (λ j. left_at j.place j.name j.body j.session) c.left.slots.items c.put.new.slots.items c.left.left.items c.pop.new.self.items c.in-Some.job c.leave.result c.leave.ensures c.put.ensures c.in-Some.ensures.items ∙ c.left.invariant
