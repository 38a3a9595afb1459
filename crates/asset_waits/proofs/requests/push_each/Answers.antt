use Rattle.std.proofs.Common.{string_bytes, sym, append-nil}
use Rattle.asset_names.specs.Steps.{applied}
use Rattle.asset_waits.specs.Texts.{blocker_line}
use Rattle.asset_names.proofs.MoreLemmas.{text_more}
use Rattle.asset_waits.proofs.requests.push_each.Goals as goal

pub names-init : goal.names-init
names-init c = sym (append-nil (string_bytes c.args.text.now))

pub names-preserved : goal.names-preserved
names-preserved c =
    text_more (blocker_line (applied c.args.core.now.history.entries) c.args.t.0 c.args.x.0 c.args.op) c.args.names.now c.names.u-index _ (string_bytes c.args.text.now) (string_bytes c.names.text) _ c.names-test.true c.names.invariant c.in_ok-push_blocker.ensures
