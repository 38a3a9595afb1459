use Rattle.std.proofs.Common.{is_some, sym, ap, ◌∙◌}
use Rattle.asset_chains.specs.declared.side.Side.TheVariants.{Row}
use Rattle.asset_records.proofs.ClimbLemmas.{wrote_if}
use Rattle.asset_records.proofs.settling.settle_at.Goals as goal

pub settle_write-requires-clause-write : goal.settle_write-requires-clause-write
settle_write-requires-clause-write c = wrote_if c.args.records.now.items c.args.key (sym c.in-None.ensures) (sym (c.laws.ensures.crossed.placed Row c.args.key) ∙ ap is_some c.requires.there)
