use Rattle.std.proofs.Common.{map, refl}
use Rattle.asset_runner.specs.Arrived.{left_at, numbered}
use Rattle.asset_runner.proofs.ArrivedLemmas.{in_order_of, lefts_are}
use Rattle.asset_runner.proofs.GoesLemmas.{all_names}
use Rattle.asset_runner.proofs.RunLemmas.{came_back}
use Rattle.asset_runner.proofs.plan.gather.Goals as goal

pub returns-clause-names : goal.returns-clause-names
returns-clause-names g c =
    let left = c.args.left.items in
    in_order_of c.args.names.now _ (numbered c.args.names.now) c.args.rows.items (map (λ j. left_at j.place j.name j.body j.session) left) (map (λ j. (j.place, j.name.0)) left)
    c.arrange-order.result.items c.settle.new.order.items refl refl (lefts_are (λ j. j.place) (λ j. j.name) (λ j. j.body) (λ j. j.session) left) c.requires.shared c.arrange-order.ensures
    (all_names c.arrange-order.result.items c.settle.new.order.items c.settle.ensures)

pub returns-clause-back : goal.returns-clause-back
returns-clause-back g c =
    let left = c.args.left.items in
    came_back c.args.names.now _ (numbered c.args.names.now) c.args.rows.items (map (λ j. left_at j.place j.name j.body j.session) left) (map (λ j. (j.place, j.name.0)) left)
    c.arrange-order.result.items c.settle.new.order.items refl refl (lefts_are (λ j. j.place) (λ j. j.name) (λ j. j.body) (λ j. j.session) left) c.requires.shared c.arrange-order.ensures c.settle.ensures
