use Rattle.std.proofs.Common.{inl, inr}
use Rattle.asset_deps.proofs.CycleLemmas.{first_apart, second_apart}
use Rattle.asset_deps.proofs.TableLemmas.{parts_of}
use Rattle.asset_deps.proofs.table.SeatedDeps.would_cycle_apart.Goals as goal

pub returns : goal.returns
returns c =
    let now = c.args.self.now in
    let p = parts_of now.links c.args.seats.now in
    let is = c.is_loop in
    elim c.requires.apart [
      | inl absent ↦ first_apart p now.size now.marked c.requires.tied c.args.kind c.args.a c.args.b is.result is.ensures.group is.ensures.order absent
      | inr absent ↦ second_apart p now.size now.marked c.requires.tied c.args.kind c.args.a c.args.b is.result is.ensures.group is.ensures.order absent
    ]
