use Rattle.std.proofs.Common.{ℕ, sym, ap, ◌∙◌, inl, inr, arith}
use Rattle.std.proofs.lemmas.Bool.{cases_eq, cases_lt}
use Rattle.asset_chains.specs.Chained.{home_of}
use Rattle.asset_seats.specs.Bucketed.{name_in, no_name, rebucketed, bucket_in}
use Rattle.asset_seats.proofs.GrowLemmas.{home_past, rebucketed_past}
use Rattle.asset_seats.proofs.buckets.spread.Goals as goal

pub keys-preserved : goal.keys-preserved
unfolding name_in no_name
keys-preserved c = record {
  at = omega arith;
  done = λ k below. elim (cases_eq k c.keys.key) [
    | inl same ↦
        ap (home_of c.rebucket.new.chains) same
        ∙ c.rebucket.ensures.home
        ∙ ap (rebucketed (bucket_in (name_in c.args.names.now c.keys.key).0 c.args.buckets)) (c.keys.invariant.rest c.keys.key (omega arith))
        ∙ sym (ap (λ (j : ℕ). rebucketed (bucket_in (name_in c.args.names.now j).0 c.args.buckets) (home_of c.args.chains.now j)) same)
    | inr apart ↦ c.rebucket.ensures.homes k apart ∙ c.keys.invariant.done k (omega (arith, below, apart))
  ];
  rest = λ k above. c.rebucket.ensures.homes k (λ same. omega (arith, above, same)) ∙ c.keys.invariant.rest k (omega (arith, above));
  free = c.rebucket.ensures.free ∙ c.keys.invariant.free;
  same_keys = c.rebucket.ensures.sizes.0 ∙ c.keys.invariant.same_keys;
  same_chains = c.rebucket.ensures.sizes.1 ∙ c.keys.invariant.same_chains;
}

pub returns-clause-homes : goal.returns-clause-homes
returns-clause-homes c = λ k. elim (cases_lt k c.keys.key) [
  | inl below ↦ c.keys.invariant.done k below
  | inr above ↦
      let none = home_past c.args.chains.now k (omega (arith, above, c.keys-test.false, c.keys-keys.ensures)) in
      c.keys.invariant.rest k above ∙ none ∙ sym (rebucketed_past (bucket_in (name_in c.args.names.now k).0 c.args.buckets) (home_of c.args.chains.now k) none)
]
