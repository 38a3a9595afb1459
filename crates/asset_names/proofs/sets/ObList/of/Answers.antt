use Rattle.std.proofs.Common.{◌≤◌, length, ◌∙◌, arith}
use Rattle.std.proofs.lemmas.Grind.{common_steps}
use Rattle.std.proofs.lemmas.List.Sorted.{IsPermutation-refl}
use Rattle.asset_names.specs.Sets.{numbers}
use Rattle.asset_names.proofs.Sorting.{sorted_rises, slots_all, slots_given}
use Rattle.asset_names.proofs.RisingLemmas.{increasing_no_double, kept_is_rising}
use Rattle.asset_names.proofs.sets.ObList.of.Goals as goal

pub invariant_of-result-2 : goal.invariant_of-result-2
unfolding numbers
invariant_of-result-2 c =
    let few : length c.args.objects.now ≤ 16 = omega arith in
    record {
      some = grind (arith, common_steps, c.is_empty.ensures, c.if-is_empty.false);
      few = few;
      slots = slots_all c.args.objects.now c.sorted.result few c.sorted.ensures.permutation c.sorted.ensures.rest;
      rising = sorted_rises c.args.objects.now _ c.sorted.ensures.permutation c.sorted.ensures.sorted c.in_default.ensures.none;
      rest = c.sorted.ensures.rest;
    }

pub returns-clause-rising : goal.returns-clause-rising
unfolding numbers
returns-clause-rising c =
    kept_is_rising c.args.objects.now _ c.sorted.ensures.permutation (sorted_rises c.args.objects.now _ c.sorted.ensures.permutation c.sorted.ensures.sorted c.in_default.ensures.none) c.in_default.ensures.none

pub invariant_of-result : goal.invariant_of-result
unfolding numbers
invariant_of-result c =
    let few : length c.args.objects.now ≤ 16 = omega arith in
    record {
      some = grind (arith, common_steps, c.is_empty.ensures, c.if-is_empty.false);
      few = few;
      slots = slots_given c.args.objects.now c.as_given.result few c.as_given.ensures.front c.as_given.ensures.rest;
      rising = rw c.as_given.ensures.front c.if-is_rising.ensures;
      rest = c.as_given.ensures.rest;
    }

pub returns-then-is_rising-clause-rising : goal.returns-then-is_rising-clause-rising
returns-then-is_rising-clause-rising c =
    let up = c.if-is_rising.ensures in
    c.as_given.ensures.front ∙ kept_is_rising c.args.objects.now _ (IsPermutation-refl _) up (increasing_no_double _ up)

pub returns-then-is_rising-clause-different : goal.returns-then-is_rising-clause-different
returns-then-is_rising-clause-different c = increasing_no_double c.args.objects.now c.if-is_rising.ensures
