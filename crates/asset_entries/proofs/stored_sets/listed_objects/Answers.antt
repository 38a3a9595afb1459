use Rattle.std.proofs.Common.{sym, ap, ◌∙◌, arith}
use Rattle.asset_names.specs.Sets.{numbers}
use Rattle.asset_entries.specs.StoredSets.{stored_set}
use Rattle.asset_entries.proofs.StoredSetLemmas.{set_again}
use Rattle.asset_entries.proofs.stored_sets.listed_objects.Goals as goal

pub returns-in-All-clause-rising : goal.returns-in-All-clause-rising
unfolding numbers
returns-in-All-clause-rising c = λ k below. absurd (omega (arith, below))

pub returns-in-All-clause-set : goal.returns-in-All-clause-set
unfolding stored_set
returns-in-All-clause-set c = let back = sym c.in-All.is in λ i. record { obs = back i }

pub returns-in-Listed-clause-set : goal.returns-in-Listed-clause-set
returns-in-Listed-clause-set c = ap stored_set c.objects.ensures.listed ∙ set_again c.args.set.now c.in-Listed.list c.in-Listed.is c.objects.ensures.some
