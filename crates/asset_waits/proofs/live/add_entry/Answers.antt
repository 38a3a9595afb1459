use Rattle.std.proofs.Common.{reverse, slice_get, ap, ◌∙◌}
use Rattle.std.proofs.lemmas.Result.{on_ok_weaker}
use Rattle.asset_names.specs.Steps.{applied}
use Rattle.asset_waits.specs.Live.{with_live}
use Rattle.asset_waits.proofs.LiveLemmas.{entry_is}
use Rattle.asset_waits.proofs.live.add_entry.Goals as goal

pub returns-in-Some : goal.returns-in-Some
returns-in-Some c =
    let core = c.args.core.now in
    let there = rw (c.history.ensures.history) at c.in-Some.ensures.entry in
    on_ok_weaker c.add_live.result
    (λ added entry at. added ∙ ap (with_live (applied core.history.entries) c.args.names.now.keys) (entry_is c.entry_into.new.step c.in-Some.reply (slice_get (reverse core.history.entries) c.args.index) entry c.takes_effect.result c.initiated_if-initiated.result there at c.takes_effect.ensures c.initiated_if-initiated.ensures))
    c.add_live.ensures
