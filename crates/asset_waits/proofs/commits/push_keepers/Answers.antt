use Rattle.std.proofs.Common.{string_bytes, sym, append-nil}
use Rattle.asset_waits.specs.Keepers.{keeper_line}
use Rattle.asset_names.proofs.MoreLemmas.{text_more}
use Rattle.asset_waits.proofs.commits.push_keepers.Goals as goal

pub names-init : goal.names-init
names-init c = sym (append-nil (string_bytes c.args.text.now))

pub names-preserved : goal.names-preserved
names-preserved c =
    text_more (keeper_line c.args.keeper c.args.t.0) c.args.names.now c.names.u-index _ (string_bytes c.args.text.now) (string_bytes c.names.text) _ c.names-test.true c.names.invariant c.in-Ok.ensures
