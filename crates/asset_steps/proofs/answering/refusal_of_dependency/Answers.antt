use Rattle.std.proofs.Common.{◌≡◌, [], ◌∷◌, sym, ap, ◌∙◌, Some, None}
use Rattle.std.specs.Option.{option_or}
use Rattle.asset_names.specs.Endings.{status}
use Rattle.asset_names.specs.Answers.{first_refusal, one_name, unknown, ended, cycle}
use Rattle.asset_steps.proofs.AnswerLemmas.{first_append}
use Rattle.asset_steps.proofs.answering.refusal_of_dependency.Goals as goal

pub returns-in-Some-clause-refusal : goal.returns-in-Some-clause-refusal
unfolding unknown ended one_name
returns-in-Some-clause-refusal c = λ opening steps stand.
    let a = c.args.a in
    let b = c.args.b in
    let one : c.status.result ≡ status steps a.0 = c.status.ensures.shown opening steps stand in
    let other : c.status-2.result ≡ status steps b.0 = c.status-2.ensures.shown opening steps stand in
    let early : Some c.in-Some.refusal ≡ first_refusal (one_name a b ∷ unknown steps a ∷ unknown steps b ∷ ended steps a ∷ ended steps b ∷ []) = rw (← one, ← other) c.in-Some.ensures in
    ap (λ first. option_or first (first_refusal (cycle steps c.args.kind a b ∷ []))) early
    ∙ sym (first_append (one_name a b ∷ unknown steps a ∷ unknown steps b ∷ ended steps a ∷ ended steps b ∷ []) (cycle steps c.args.kind a b ∷ []))

pub returns-in-None-clause-refusal : goal.returns-in-None-clause-refusal
unfolding unknown ended one_name
returns-in-None-clause-refusal c = λ opening steps stand.
    let a = c.args.a in
    let b = c.args.b in
    let one : c.status.result ≡ status steps a.0 = c.status.ensures.shown opening steps stand in
    let other : c.status-2.result ≡ status steps b.0 = c.status-2.ensures.shown opening steps stand in
    let early : None ≡ first_refusal (one_name a b ∷ unknown steps a ∷ unknown steps b ∷ ended steps a ∷ ended steps b ∷ []) = rw (← one, ← other) c.in-None.ensures in
    c.refusal_of_cycle.ensures.refusal opening steps stand
    ∙ ap (λ first. option_or first (first_refusal (cycle steps c.args.kind a b ∷ []))) early
    ∙ sym (first_append (one_name a b ∷ unknown steps a ∷ unknown steps b ∷ ended steps a ∷ ended steps b ∷ []) (cycle steps c.args.kind a b ∷ []))
