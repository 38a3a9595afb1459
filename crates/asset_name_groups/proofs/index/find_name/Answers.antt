use Rattle.std.proofs.Common.{◌≡◌, ◌-◌, ◌<◌, length, get_or, sym, ap, ◌∙◌, arith, inl, inr}
use Rattle.std.proofs.lemmas.Bool.{cases_eq, cases_lt}
use Rattle.asset_name_groups.specs.Index.{bucket_in, last_in}
use Rattle.asset_name_groups.proofs.IndexLemmas.{last_low, last_is_in, none_after}
use Rattle.asset_name_groups.proofs.index.find_name.Goals as goal

pub bucket-init : goal.bucket-init
bucket-init c =
    let names = c.args.names.now in
    let buckets = length c.args.last.now in
    let bucket = c.bucket_of.result in
    let is : get_or c.args.last.now bucket 0 ≡ last_in names buckets bucket (length names) = c.requires.last_is bucket c.bucket_of.ensures.within in
    record {
      low = omega (arith, is, last_low names buckets bucket (length names));
      within = λ k next. (last_is_in names buckets bucket (length names) k (sym is ∙ next)).1 ∙ c.bucket_of.ensures.bucket;
      passed = λ k after below same.
          none_after names buckets bucket (length names) k (omega (arith, is, after)) below (ap (λ name. bucket_in name buckets) same ∙ sym c.bucket_of.ensures.bucket);
    }

pub bucket-smaller : goal.bucket-smaller
bucket-smaller c =
    let names = c.args.names.now in
    let buckets = length c.args.last.now in
    let k = c.bucket.at - 1 in
    let is = c.requires.before_is k (omega (arith, c.bucket.invariant.low, c.bucket-test.true)) in
    omega (arith, is, last_low names buckets (bucket_in (get_or names k 0) buckets) k, c.bucket-test.true)

pub bucket-preserved : goal.bucket-preserved
bucket-preserved c =
    let names = c.args.names.now in
    let buckets = length c.args.last.now in
    let k = c.bucket.at - 1 in
    let here : k < length names = omega (arith, c.bucket.invariant.low, c.bucket-test.true) in
    let same_bucket : bucket_in (get_or names k 0) buckets ≡ bucket_in c.args.t buckets = c.bucket.invariant.within k (omega (arith, c.bucket-test.true)) in
    let is : get_or c.args.before.now k 0 ≡ last_in names buckets (bucket_in c.args.t buckets) k = c.requires.before_is k here ∙ ap (λ bucket. last_in names buckets bucket k) same_bucket in
    record {
      low = omega (arith, is, last_low names buckets (bucket_in c.args.t buckets) k, here);
      within = λ m next. (last_is_in names buckets (bucket_in c.args.t buckets) k m (sym is ∙ next)).1;
      passed = λ m after below same. elim (cases_eq m k) [
        | inl at ↦ c.if-names-k.false (sym (ap (λ n. get_or names n 0) at) ∙ same)
        | inr not ↦ elim (cases_lt m k) [
          | inl before ↦ none_after names buckets (bucket_in c.args.t buckets) k m (omega (arith, is, after)) before (ap (λ name. bucket_in name buckets) same)
          | inr behind ↦ c.bucket.invariant.passed m (omega (arith, not, behind)) below same
        ]
      ];
    }

pub returns-then-names-k-clause-found : goal.returns-then-names-k-clause-found
returns-then-names-k-clause-found c = (omega (arith, c.bucket.invariant.low, c.bucket-test.true), c.if-names-k.true)
