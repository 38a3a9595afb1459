use Rattle.std.proofs.Common.{◌≡◌, ℕ, List, [], ◌∷◌, ◌++◌, length, get_or, set, refl, ap, ◌∙◌, arith}
use Rattle.asset_buckets.proofs.BucketLemmas.{filled, none_filled, all_filled, one_filled}
use Rattle.asset_buckets.proofs.buckets.fill.Goals as goal

pub numbers-init : goal.numbers-init
numbers-init c = λ count empty. empty ∙ none_filled c.args.numbers.now count

pub numbers-preserved : goal.numbers-preserved
numbers-preserved c = λ count empty.
    let numbers = c.args.numbers.now in
    let i = c.numbers.i in
    c.in_ok-add.ensures
    ∙ ap (λ (rows : List (List ℕ)). set rows (get_or numbers i 0) (get_or rows (get_or numbers i 0) [] ++ i ∷ [])) (c.numbers.invariant count empty)
    ∙ one_filled numbers count i (get_or numbers i 0) refl

pub returns : goal.returns
returns c = λ count empty.
    let numbers = c.args.numbers.now in
    let all : c.numbers.i ≡ length numbers = omega (arith, c.numbers-test.false, c.numbers.auto.i-end) in
    c.numbers.invariant count empty ∙ ap (filled numbers count) all ∙ all_filled numbers count
