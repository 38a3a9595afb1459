use Rattle.std.proofs.Common.{reverse, refl, sym, ◌∙◌}
use Rattle.asset_names.specs.Steps.{applied}
use Rattle.asset_reference.specs.Sources.{completes}
use Rattle.asset_reference.proofs.SourceLemmas.{completes_with}
use Rattle.asset_reference.proofs.depending.entry_completes.Goals as goal

pub returns-then-not-takes_effect : goal.returns-then-not-takes_effect
returns-then-not-takes_effect c =
    completes_with (completes (applied (reverse c.args.entries.now)) c.args.t.0) c.args.entries.now c.args.index c.index-entries-index.result c.takes_effect.result c.requires c.index-entries-index.is (sym c.takes_effect.ensures)
    ∙ rw c.if-not-takes_effect.true refl

pub returns-else-not-takes_effect : goal.returns-else-not-takes_effect
returns-else-not-takes_effect c =
    completes_with (completes (applied (reverse c.args.entries.now)) c.args.t.0) c.args.entries.now c.args.index c.index-entries-index.result c.takes_effect.result c.requires c.index-entries-index.is (sym c.takes_effect.ensures)
    ∙ rw (c.if-not-takes_effect.false, c.step_completes.ensures) refl
