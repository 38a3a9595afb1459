use Rattle.std.proofs.Common.{arith}
use Rattle.asset_lists.proofs.SwapLemmas.{key_in, list_in, at_key, stands_in, few, within, positions, valid_now, changed_now}
use Rattle.asset_lists.proofs.SectionLemmas.{raised_again}
use Rattle.asset_lists.proofs.table.KeyLists.raise_again.Goals as goal

pub index-requires : goal.index-requires
index-requires c = omega (arith, key_in c.self.invariant c.self.view_is c.args.key c.requires)

pub index_mut-row-requires : goal.index_mut-row-requires
index_mut-row-requires c = omega (arith, list_in c.self.invariant c.self.view_is c.args.key c.requires)

pub swap-requires-clause-first : goal.swap-requires-clause-first
swap-requires-clause-first c = (at_key c.self.invariant c.self.view_is c.args.key c.requires c.index.ensures c.index_mut-row.ensures.value c.as_mut_slice.ensures.value).within

pub swap-requires-clause-second : goal.swap-requires-clause-second
swap-requires-clause-second c = (raised_again (stands_in c.self.invariant c.self.view_is c.args.key c.requires c.index.ensures c.index_mut-row.ensures.value c.as_mut_slice.ensures.value)).within

pub swap-requires-clause-few : goal.swap-requires-clause-few
swap-requires-clause-few c = few c.self.invariant c.self.view_is c.args.key c.requires c.index.ensures c.index_mut-row.ensures.value c.as_mut_slice.ensures.value

pub swap-requires-clause-within : goal.swap-requires-clause-within
swap-requires-clause-within c = within c.self.invariant c.self.view_is c.args.key c.requires c.index.ensures c.index_mut-row.ensures.value c.as_mut_slice.ensures.value

pub swap-requires-clause-positions : goal.swap-requires-clause-positions
swap-requires-clause-positions c = positions c.self.invariant c.self.view_is c.args.key c.requires c.index.ensures c.index_mut-row.ensures.value c.as_mut_slice.ensures.value

pub overflow_add-row : goal.overflow_add-row
overflow_add-row c = omega (arith, (raised_again (stands_in c.self.invariant c.self.view_is c.args.key c.requires c.index.ensures c.index_mut-row.ensures.value c.as_mut_slice.ensures.value)).within, few c.self.invariant c.self.view_is c.args.key c.requires c.index.ensures c.index_mut-row.ensures.value c.as_mut_slice.ensures.value)

pub invariant_of-self : goal.invariant_of-self
invariant_of-self c =
    valid_now c.self.invariant c.self.view_is c.args.key c.requires c.index.ensures c.index_mut-row.ensures.value c.as_mut_slice.ensures.value
    (raised_again (stands_in c.self.invariant c.self.view_is c.args.key c.requires c.index.ensures c.index_mut-row.ensures.value c.as_mut_slice.ensures.value)) c.swap.new.places.items c.swap.ensures.size c.swap.ensures.swapped c.swap.ensures.moved c.swap.ensures.others

pub returns : goal.returns
returns c =
    changed_now c.self.invariant c.self.view_is c.args.key c.requires c.index.ensures c.index_mut-row.ensures.value c.as_mut_slice.ensures.value
    (raised_again (stands_in c.self.invariant c.self.view_is c.args.key c.requires c.index.ensures c.index_mut-row.ensures.value c.as_mut_slice.ensures.value)) c.swap.new.places.items c.swap.ensures.size c.swap.ensures.swapped c.swap.ensures.moved c.swap.ensures.others
