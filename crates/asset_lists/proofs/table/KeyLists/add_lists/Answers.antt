use Rattle.std.proofs.Common.{refl, ap, ◌∙◌, arith}
use Rattle.asset_lists.specs.Parted.{Parted}
use Rattle.asset_lists.proofs.Laws.{list_more-lists, list_more-parts}
use Rattle.asset_lists.proofs.table.KeyLists.add_lists.Goals as goal

pub lists-init : goal.lists-init
lists-init c = record { parts = refl; more = omega arith; no_more = omega arith }

pub lists-smaller : goal.lists-smaller
lists-smaller c =
    let more = ap (λ (table : Parted). table.lists) c.in-Ok.ensures.added ∙ list_more-lists c.lists.self in omega (arith, more, c.lists-test.true, c.list_count.ensures)

pub lists-preserved : goal.lists-preserved
lists-preserved c = record {
  parts = ap (λ (table : Parted). table.parts) c.in-Ok.ensures.added ∙ list_more-parts c.lists.self ∙ c.lists.invariant.parts;
  more = omega (arith, ap (λ (table : Parted). table.lists) c.in-Ok.ensures.added ∙ list_more-lists c.lists.self, c.lists.invariant.more);
  no_more = omega (arith, ap (λ (table : Parted). table.lists) c.in-Ok.ensures.added ∙ list_more-lists c.lists.self, c.lists-test.true, c.list_count.ensures);
}

pub returns-clause-there : goal.returns-clause-there
returns-clause-there c = omega (arith, c.lists-test.false, c.list_count.ensures)

pub returns-clause-no_more : goal.returns-clause-no_more
returns-clause-no_more c = omega arith
