use Rattle.std.proofs.Common.{sym, ap, ◌∙◌, arith}
use Rattle.std.proofs.lemmas.Int.{to_z-of_z}
use Rattle.asset_chains.specs.declared.side.Side.TheVariants.{Row}
use Rattle.asset_records.specs.declared.mending.Mend.TheVariants.{Less}
use Rattle.asset_records.specs.Layered.{says_layered}
use Rattle.asset_records.proofs.LayerLemmas.{none_over}
use Rattle.asset_records.proofs.layers.over_in.Goals as goal

pub returns-in-Some-clause-write : goal.returns-in-Some-clause-write
returns-in-Some-clause-write c =
    (none_over c.args.records.now c.args.marks.now c.args.object (c.laws.ensures.crossed.sound Row) c.requires.marked c.args.key c.in-Some.amount c.requires.home (sym (c.is_layered.ensures ∙ ap says_layered c.mark_of.ensures) ∙ c.if-not-is_layered.false) (sym c.in-Some.ensures)).0

pub returns-in-Some-clause-mend : goal.returns-in-Some-clause-mend
returns-in-Some-clause-mend c =
    ap Less (grind (arith, to_z-of_z))
    ∙ (none_over c.args.records.now c.args.marks.now c.args.object (c.laws.ensures.crossed.sound Row) c.requires.marked c.args.key c.in-Some.amount c.requires.home (sym (c.is_layered.ensures ∙ ap says_layered c.mark_of.ensures) ∙ c.if-not-is_layered.false) (sym c.in-Some.ensures)).1
