use Rattle.std.proofs.Common.{◌||◌, ◌&&◌, ap, ◌∙◌}
use Rattle.asset_names.specs.Arrows.{lists}
use Rattle.asset_names.specs.Sets.{numbers}
use Rattle.asset_names.proofs.Common.{eqb-flip, on_ok, on_err}
use Rattle.asset_permits.specs.Descriptors.{one_covers, lets, lets_all, opens}
use Rattle.asset_permits.specs.Copies.{copies, cuts_in}
use Rattle.asset_permits.specs.Valid.{permits_in}
use Rattle.asset_permits.proofs.CopyLemmas.{stands_by_cuts, both_passing, same_passing, copies_cover, copies_open}
use Rattle.asset_permits.proofs.table.SeatedPermits.copy_for.Goals as goal

pub returns-clause-stands : goal.returns-clause-stands
unfolding copies
returns-clause-stands c =
    let permits = permits_in c.args.self.now in
    stands_by_cuts c.add_cuts.result c.args.receiver.t.0 c.in_ok-cuts.cuts.items (cuts_in c.args.giver.t.0 permits c.args.moved.now) permits (permits_in c.add_cuts.new.self) c.in_ok-cuts.ensures.cuts (rw c.deref.ensures.value at c.add_cuts.ensures.stands)

pub returns-clause-covers : goal.returns-clause-covers
unfolding one_covers
returns-clause-covers c = on_ok c.add_cuts.result (λ standing. λ u t x op.
    let permits = permits_in c.args.self.now in
    let giver = c.args.giver.t.0 in
    let receiver = c.args.receiver.t.0 in
    let moved = c.args.moved.now in
    both_passing (lets u t x op) (permits_in c.add_cuts.new.self) permits (copies giver receiver permits moved) standing
    ∙ ap (λ b. one_covers permits u t x op || b) (copies_cover giver receiver permits moved u t x op ∙ ap (λ b. b && lists (numbers moved) x && one_covers permits giver t x op) (eqb-flip receiver u))) (returns-clause-stands c)

pub returns-clause-opens : goal.returns-clause-opens
unfolding opens
returns-clause-opens c = on_ok c.add_cuts.result (λ standing. λ u x op.
    let permits = permits_in c.args.self.now in
    let giver = c.args.giver.t.0 in
    let receiver = c.args.receiver.t.0 in
    let moved = c.args.moved.now in
    both_passing (lets_all u x op) (permits_in c.add_cuts.new.self) permits (copies giver receiver permits moved) standing
    ∙ ap (λ b. opens permits u x op || b) (copies_open giver receiver permits moved u x op ∙ ap (λ b. b && lists (numbers moved) x && opens permits giver x op) (eqb-flip receiver u))) (returns-clause-stands c)

pub returns-clause-covered : goal.returns-clause-covered
unfolding one_covers
returns-clause-covered c = on_err c.add_cuts.result (λ same. λ u t x op. same_passing (lets u t x op) (permits_in c.add_cuts.new.self) (permits_in c.args.self.now) same) c.add_cuts.ensures.unchanged

pub returns-clause-opened : goal.returns-clause-opened
unfolding opens
returns-clause-opened c = on_err c.add_cuts.result (λ same. λ u x op. same_passing (lets_all u x op) (permits_in c.add_cuts.new.self) (permits_in c.args.self.now) same) c.add_cuts.ensures.unchanged
