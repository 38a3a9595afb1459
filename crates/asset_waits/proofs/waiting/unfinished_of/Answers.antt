use Rattle.std.proofs.Common.{◌∙◌}
use Rattle.asset_names.specs.Steps.{applied}
use Rattle.asset_ends.specs.Waits.{is_unfinished}
use Rattle.asset_ends.proofs.WaitLemmas.{if_ok_as}
use Rattle.asset_waits.specs.Waiting.{unfinished_of}
use Rattle.asset_waits.proofs.WhoLemmas.{found_are, unfinished_lives}
use Rattle.asset_waits.proofs.waiting.unfinished_of.Goals as goal

pub returns-clause-named : goal.returns-clause-named
unfolding unfinished_of
returns-clause-named c =
    let steps = applied c.args.core.now.history.entries in
    let are = found_are steps (is_unfinished steps c.args.t.0) c.in_ok-found.found.keys c.names_in.ensures.rising c.in_ok-found.ensures.named (unfinished_lives steps c.args.t.0) in
    if_ok_as c.names_in.result (λ names items. items ∙ are) c.names_in.ensures.items
