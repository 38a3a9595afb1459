use Rattle.std.proofs.Common.{◌∙◌}
use Rattle.asset_names.specs.Steps.{applied}
use Rattle.asset_ends.specs.Waits.{is_blocker}
use Rattle.asset_ends.proofs.WaitLemmas.{if_ok_as}
use Rattle.asset_waits.specs.Waiting.{blockers_of}
use Rattle.asset_waits.proofs.WhoLemmas.{found_are, blocker_lives}
use Rattle.asset_waits.proofs.waiting.blockers_of.Goals as goal

pub returns-clause-named : goal.returns-clause-named
unfolding blockers_of
returns-clause-named c =
    let steps = applied c.args.core.now.history.entries in
    let are = found_are steps (is_blocker steps c.args.t.0 c.args.x.0 c.args.op) c.in_ok-found.found.keys c.names_in.ensures.rising c.in_ok-found.ensures.named (blocker_lives steps c.args.t.0 c.args.x.0 c.args.op) in
    if_ok_as c.names_in.result (λ names items. items ∙ are) c.names_in.ensures.items
