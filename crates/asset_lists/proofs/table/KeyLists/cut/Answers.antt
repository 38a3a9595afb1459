use Rattle.std.proofs.Common.{ℕ, List, length, refl, ap, arith}
use Rattle.asset_lists.proofs.SwapLemmas.{key_in, list_in, at_key, few, within, positions}
use Rattle.asset_lists.proofs.CutLemmas.{valid_cut, changed_cut}
use Rattle.asset_lists.proofs.table.KeyLists.cut.Goals as goal

pub index-requires : goal.index-requires
index-requires c = omega (arith, key_in c.self.invariant c.self.view_is c.args.key c.requires)

pub index_mut-row-requires : goal.index_mut-row-requires
index_mut-row-requires c = omega (arith, list_in c.self.invariant c.self.view_is c.args.key c.requires)

pub swap-requires-clause-first : goal.swap-requires-clause-first
swap-requires-clause-first c = (at_key c.self.invariant c.self.view_is c.args.key c.requires c.index.ensures c.index_mut-row.ensures.value c.as_mut_slice.ensures.value).within

pub swap-requires-clause-second : goal.swap-requires-clause-second
swap-requires-clause-second c = omega (arith, (at_key c.self.invariant c.self.view_is c.args.key c.requires c.index.ensures c.index_mut-row.ensures.value c.as_mut_slice.ensures.value).within, c.len-last.ensures.value, ap (λ (l : List ℕ). length l) c.as_mut_slice.ensures.value)

pub swap-requires-clause-few : goal.swap-requires-clause-few
swap-requires-clause-few c = few c.self.invariant c.self.view_is c.args.key c.requires c.index.ensures c.index_mut-row.ensures.value c.as_mut_slice.ensures.value

pub swap-requires-clause-within : goal.swap-requires-clause-within
swap-requires-clause-within c = within c.self.invariant c.self.view_is c.args.key c.requires c.index.ensures c.index_mut-row.ensures.value c.as_mut_slice.ensures.value

pub swap-requires-clause-positions : goal.swap-requires-clause-positions
swap-requires-clause-positions c = positions c.self.invariant c.self.view_is c.args.key c.requires c.index.ensures c.index_mut-row.ensures.value c.as_mut_slice.ensures.value

pub overflow_sub-last : goal.overflow_sub-last
overflow_sub-last c = omega (arith, (at_key c.self.invariant c.self.view_is c.args.key c.requires c.index.ensures c.index_mut-row.ensures.value refl).within, c.len-last.ensures.value)

pub index_mut-requires : goal.index_mut-requires
index_mut-requires c = omega (arith, key_in c.self.invariant c.self.view_is c.args.key c.requires, c.swap.ensures.size)

pub invariant_of-self : goal.invariant_of-self
invariant_of-self c =
    valid_cut c.self.invariant c.self.view_is c.args.key c.requires c.index.ensures c.index_mut-row.ensures.value c.as_mut_slice.ensures.value c.len-last.ensures.value c.swap.new.places.items c.swap.ensures.size c.swap.ensures.swapped c.swap.ensures.moved c.swap.ensures.others
    (record { keys = c.pop.new.self; front = c.index_mut-row.result.now.front; back = c.index_mut-row.result.now.back }) c.pop.ensures.rest refl refl

pub returns : goal.returns
returns c =
    changed_cut c.self.invariant c.self.view_is c.args.key c.requires c.index.ensures c.index_mut-row.ensures.value c.as_mut_slice.ensures.value c.len-last.ensures.value c.swap.new.places.items c.swap.ensures.size c.swap.ensures.swapped c.swap.ensures.moved c.swap.ensures.others
    (record { keys = c.pop.new.self; front = c.index_mut-row.result.now.front; back = c.index_mut-row.result.now.back }) c.pop.ensures.rest refl refl
