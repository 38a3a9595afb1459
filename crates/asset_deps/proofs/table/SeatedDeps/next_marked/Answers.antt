use Rattle.std.proofs.Common.{rules}
use Rattle.asset_deps.proofs.TableLemmas.{parts_of, popped_valid}
use Rattle.asset_deps.proofs.table.SeatedDeps.next_marked.Goals as goal

pub returns-clause-tied : goal.returns-clause-tied
returns-clause-tied c =
    let inside = c.self.inside in
    rw (← c.self.view_is) (λ seats tied. popped_valid (parts_of inside.links seats) inside.marks.size inside.marked c.pop.new.self c.pop.result c.pop.ensures.last c.pop.ensures.none c.pop.ensures.size tied)

pub returns-clause-last : goal.returns-clause-last
returns-clause-last c = search rules
