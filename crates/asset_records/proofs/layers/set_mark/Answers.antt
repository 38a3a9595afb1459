use Rattle.std.proofs.Common.{sym, subst, arith}
use Rattle.std.proofs.lemmas.List.{get_or-set_same, get_or_past}
use Rattle.asset_records.specs.declared.layers.Mark.{Mark}
use Rattle.asset_records.specs.declared.layers.Mark.TheVariants.{Mixed}
use Rattle.asset_records.specs.Layered.{fits, mark_at}
use Rattle.asset_records.proofs.layers.set_mark.Goals as goal

pub returns-then-object-len-clause-own : goal.returns-then-object-len-clause-own
unfolding mark_at
returns-then-object-len-clause-own c = λ records is.
    subst (λ (mark : Mark). fits mark records) (sym (get_or-set_same c.args.marks.now.items c.args.object c.args.mark Mixed (omega (arith, c.if-object-len.true, c.len.ensures)))) is

pub returns-else-object-len-clause-own : goal.returns-else-object-len-clause-own
unfolding mark_at fits
returns-else-object-len-clause-own c = λ records is.
    subst (λ (mark : Mark). fits mark records) (sym (get_or_past c.args.marks.now.items c.args.object Mixed (omega (arith, c.if-object-len.false, c.len.ensures)))) tt
