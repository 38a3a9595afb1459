use Rattle.std.proofs.Common.{reverse, refl, sym, ◌∙◌}
use Rattle.asset_names.specs.Steps.{applied}
use Rattle.asset_reference.proofs.SourceLemmas.{outside_with}
use Rattle.asset_reference.proofs.depending.entry_is_outside.Goals as goal

pub returns-then-takes_effect : goal.returns-then-takes_effect
returns-then-takes_effect c =
    outside_with (applied (reverse c.args.entries.now)) c.args.t.0 c.args.entries.now c.args.index c.index-entries-index.result c.takes_effect.result c.requires c.index-entries-index.is (sym c.takes_effect.ensures)
    ∙ rw (c.if-takes_effect.true, c.step_is_outside.ensures) refl

pub returns-else-takes_effect : goal.returns-else-takes_effect
returns-else-takes_effect c =
    outside_with (applied (reverse c.args.entries.now)) c.args.t.0 c.args.entries.now c.args.index c.index-entries-index.result c.takes_effect.result c.requires c.index-entries-index.is (sym c.takes_effect.ensures)
    ∙ rw c.if-takes_effect.false refl
