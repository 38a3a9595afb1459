use Rattle.std.proofs.Common.{ap, length, subst, sym, arith, rules}
use Rattle.asset_chains.specs.Chained.{Chained, home_of}
use Rattle.asset_records.specs.Layered.{AreMarked}
use Rattle.asset_records.proofs.ListedLemmas.{tied_grown, same_rows}
use Rattle.asset_records.proofs.records.Records.reserve.Goals as goal

pub returns-clause-lists : goal.returns-clause-lists
returns-clause-lists c = rw (← c.self.view_is) (same_rows c.self.inside.records c.reserve_item.new.items c.reserve_item.ensures.grown.items c.reserve_item.ensures.rows)

pub returns-clause-tied : goal.returns-clause-tied
returns-clause-tied c =
    rw (← c.self.view_is)
    (λ seats tied. tied_grown c.self.inside.records c.reserve_item.new.items seats tied c.reserve_item.ensures.grown.items (λ k. ap (λ (table : Chained). home_of table k) c.reserve_item.ensures.columns)
    (omega (arith, ap (λ (table : Chained). length table.chains) c.reserve_item.ensures.columns)))

pub invariant_of-self : goal.invariant_of-self
invariant_of-self c =
    subst (AreMarked c.self.inside.marks.items)
    (sym (same_rows c.self.inside.records c.reserve_item.new.items c.reserve_item.ensures.grown.items c.reserve_item.ensures.rows))
    c.self.invariant

pub returns-clause-reserved : goal.returns-clause-reserved
returns-clause-reserved c = search rules
