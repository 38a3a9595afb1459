use Rattle.std.proofs.Common.{sym, ap, ◌∙◌, arith}
use Rattle.std.proofs.lemmas.Result.{IfOk-weaker}
use Rattle.asset_sources.specs.Sourced.{source_at}
use Rattle.asset_sources.proofs.WalkLemmas.{source_past, alone_found}
use Rattle.asset_sources.proofs.finding.source.Goals as goal

pub returns-then-index-len-clause-exact : goal.returns-then-index-len-clause-exact
returns-then-index-len-clause-exact c = sym (source_past c.args.history.now.entries c.args.index (omega (arith, c.if-index-len.true, c.len.ensures.len)))

pub returns-clause-alone : goal.returns-clause-alone
returns-clause-alone c = λ newer older t x v is at alone.
    let all = c.args.history.now.entries in
    let law = alone_found c.args.history.now.opening all newer older t x v c.len.ensures.legal is alone in
    IfOk-weaker c.source_after-found.result _ _ (λ found exact. (exact ∙ ap (source_at all) at ∙ law.0, law.1, law.2)) c.source_after-found.ensures
