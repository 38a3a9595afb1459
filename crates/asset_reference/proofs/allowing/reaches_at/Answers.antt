use Rattle.std.proofs.Common.{◌∙◌, ◌||◌, ap, reverse, take, sym}
use Rattle.asset_names.specs.Steps.{applied}
use Rattle.asset_names.specs.Operations.{openers}
use Rattle.asset_reference.specs.Openers.{reached}
use Rattle.asset_reference.proofs.AllowLemmas.{reached_more}
use Rattle.asset_reference.proofs.allowing.reaches_at.Goals as goal

pub returns : goal.returns
returns c =
    reached_more (applied (reverse c.args.entries.now)) c.args.u.0 c.args.entries.now c.args.index c.index-entries-index.result c.opened_at-opened.result c.args.x.0 c.args.op c.requires c.index-entries-index.is c.opened_at-opened.ensures
    ∙ ap (λ b. b || reached (applied (reverse c.args.entries.now)) c.args.u.0 c.args.x.0 c.args.op (openers (applied (reverse (take c.args.index c.args.entries.now))) c.args.x.0 c.args.op)) (sym c.reaches_by.ensures)
