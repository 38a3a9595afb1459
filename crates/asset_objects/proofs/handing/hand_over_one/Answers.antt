use Rattle.std.proofs.Common.{◌≡◌, ℕ, Some, None, sym, ap, ◌∙◌}
use Rattle.std.specs.List.{list_any}
use Rattle.asset_records.specs.Listed.{lists_in, on, is_of}
use Rattle.asset_objects.proofs.HandLemmas.{one_handed, none_handed}
use Rattle.asset_objects.proofs.handing.hand_over_one.Goals as goal

pub returns-in-Some-clause-lists : goal.returns-in-Some-clause-lists
returns-in-Some-clause-lists c = λ objects x y i at there.
    one_handed c.args.giver.t.0 c.args.taker.t.0 objects x c.in-Some.number (lists_in c.args.records.now) (lists_in c.hand_over_on.new.self) (sym at ∙ c.in-Some.is) c.hand_over_on.ensures.lists y i there

pub returns-in-Some-clause-counted : goal.returns-in-Some-clause-counted
returns-in-Some-clause-counted c = λ apart i there wrote.
    let both : Some c.in-Some.number ≡ Some i = sym c.in-Some.is ∙ there in
    let same : c.in-Some.number ≡ i = cc both in
    c.hand_over_on.ensures.counted apart (ap (λ (n : ℕ). list_any (is_of c.args.giver.t.0) (on (lists_in c.args.records.now) n)) same ∙ wrote)

pub returns-in-None-clause-lists : goal.returns-in-None-clause-lists
returns-in-None-clause-lists c = λ objects x y i at there. none_handed c.args.giver.t.0 c.args.taker.t.0 objects x (lists_in c.args.records.now) (sym at ∙ c.in-None.is) y i there

pub returns-in-None-clause-counted : goal.returns-in-None-clause-counted
returns-in-None-clause-counted c = λ apart i there wrote. let wrong : None ≡ Some i = sym c.in-None.is ∙ there in absurd (cc wrong)
