use Rattle.std.proofs.Common.{sym, ap, ◌∙◌}
use Rattle.std.proofs.lemmas.Bool.{eqb-true, eqb-false}
use Rattle.asset_names.specs.declared.sets.ObSet.TheVariants.{Listed}
use Rattle.asset_entries.proofs.StoredSetLemmas.{set_again, rising_already, no_fault, empty_set}
use Rattle.asset_entries.proofs.stored_sets.set_of.Goals as goal

pub returns-then-is_empty : goal.returns-then-is_empty
returns-then-is_empty c = empty_set c.args.objects.now (eqb-true _ _ (sym c.is_empty.ensures ∙ c.if-is_empty.true))

pub unreachable-requires : goal.unreachable-requires
unreachable-requires c = no_fault c.args.objects.now c.in-Err.field-0 c.in-Err.ensures.fault (eqb-false _ _ (sym c.is_empty.ensures ∙ c.if-is_empty.false)) c.requires.few c.requires.rising

pub returns : goal.returns
returns c =
    let same = c.in-Ok.ensures.rising ∙ rising_already c.args.objects.now c.requires.rising in
    sym (set_again (Listed c.in-Ok.list) c.args.objects.now (ap Listed same) c.in-Ok.ensures.some)
