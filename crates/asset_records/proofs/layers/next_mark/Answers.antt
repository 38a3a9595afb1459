use Rattle.std.proofs.Common.{sym, subst, ◌∙◌}
use Rattle.asset_records.specs.declared.layers.Mark.{Mark}
use Rattle.asset_records.specs.Layered.{fits, AreMarked}
use Rattle.asset_records.specs.Listed.{on, lists_in}
use Rattle.asset_records.proofs.layers.next_mark.Goals as goal

pub returns-in-Writes : goal.returns-in-Writes
unfolding fits AreMarked
returns-in-Writes c = λ owner.
    c.mark_over_writes.ensures (on (lists_in c.args.records.now) c.args.object) owner
    (subst (λ (mark : Mark). fits mark (on (lists_in c.args.records.now) c.args.object)) (sym c.mark_of.ensures ∙ c.in-Writes.is) (c.requires.marked c.args.object))
