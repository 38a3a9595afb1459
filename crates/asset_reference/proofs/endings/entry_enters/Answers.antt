use Rattle.std.proofs.Common.{refl, ◌∙◌}
use Rattle.asset_reference.proofs.WayLemmas.{enters_more}
use Rattle.asset_reference.proofs.endings.entry_enters.Goals as goal

pub returns : goal.returns
returns c =
    enters_more c.args.along c.args.entries.now c.args.index c.index-entries-index.result c.way_at-way.result c.args.t.0 c.requires c.index-entries-index.is c.way_at-way.ensures
    ∙ rw c.way_enters.ensures refl
