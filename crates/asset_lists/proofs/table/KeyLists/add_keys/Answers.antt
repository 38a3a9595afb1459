use Rattle.std.proofs.Common.{length, refl, ap, ◌∙◌, arith}
use Rattle.asset_lists.specs.Parted.{Parted, part_of}
use Rattle.asset_lists.proofs.Laws.{key_more-part, key_more-keys, key_more-lists}
use Rattle.asset_lists.proofs.table.KeyLists.add_keys.Goals as goal

pub keys-init : goal.keys-init
keys-init c = record { lists = refl; parts = λ k. refl; more = omega arith; no_more = omega arith }

pub keys-smaller : goal.keys-smaller
keys-smaller c =
    let more = ap (λ (table : Parted). length table.parts) c.in-Ok.ensures.added ∙ key_more-keys c.keys.self in omega (arith, more, c.keys-test.true, c.key_count.ensures)

pub keys-preserved : goal.keys-preserved
keys-preserved c = record {
  lists = ap (λ (table : Parted). table.lists) c.in-Ok.ensures.added ∙ key_more-lists c.keys.self ∙ c.keys.invariant.lists;
  parts = λ k. ap (λ (table : Parted). part_of table k) c.in-Ok.ensures.added ∙ key_more-part c.keys.self k ∙ c.keys.invariant.parts k;
  more = omega (arith, ap (λ (table : Parted). length table.parts) c.in-Ok.ensures.added ∙ key_more-keys c.keys.self, c.keys.invariant.more);
  no_more = omega (arith, ap (λ (table : Parted). length table.parts) c.in-Ok.ensures.added ∙ key_more-keys c.keys.self, c.keys-test.true, c.key_count.ensures);
}

pub returns-clause-there : goal.returns-clause-there
returns-clause-there c = omega (arith, c.keys-test.false, c.key_count.ensures)

pub returns-clause-no_more : goal.returns-clause-no_more
returns-clause-no_more c = omega arith
