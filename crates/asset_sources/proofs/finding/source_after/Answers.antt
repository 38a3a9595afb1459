use Rattle.std.proofs.Common.{sym, ◌∙◌}
use Rattle.std.proofs.lemmas.Result.{IfOk-weaker}
use Rattle.asset_sources.proofs.WalkLemmas.{entry_there, source_found}
use Rattle.asset_sources.proofs.finding.source_after.Goals as goal

pub returns : goal.returns
returns c =
    let all = c.args.history.now.entries in
    let there = entry_there all c.args.index c.requires.there in
    IfOk-weaker c.pass_for_source.result _ _ (λ found is. is ∙ sym (source_found all c.args.index there.0 there.1)) (c.pass_for_source.ensures.source there.0 there.1)
