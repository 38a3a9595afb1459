use Rattle.std.proofs.Common.{◌∙◌}
use Rattle.asset_names.specs.Steps.{applied}
use Rattle.asset_ends.specs.Waits.{is_outside_source}
use Rattle.asset_ends.proofs.WaitLemmas.{if_ok_as}
use Rattle.asset_waits.specs.Waiting.{outside_sources_of}
use Rattle.asset_waits.proofs.WhoLemmas.{found_are, source_lives}
use Rattle.asset_waits.proofs.waiting.outside_sources_of.Goals as goal

pub returns-clause-named : goal.returns-clause-named
unfolding outside_sources_of
returns-clause-named c =
    let steps = applied c.args.core.now.history.entries in
    let are = found_are steps (is_outside_source steps c.args.t.0) c.in_ok-found.found.keys c.names_in.ensures.rising c.in_ok-found.ensures.named (source_lives steps c.args.t.0) in
    if_ok_as c.names_in.result (λ names items. items ∙ are) c.names_in.ensures.items
