use Rattle.std.proofs.Common.{◌∙◌, ◌||◌, get_or, sym, ap, refl}
use Rattle.asset_names.specs.declared.names.Txn.{Txn}
use Rattle.asset_deletion.specs.Going.{goes, takes_along}
use Rattle.asset_deletion.proofs.WithoutLemmas.{goes_more}
use Rattle.asset_deletion.proofs.going.mark_chosen.Goals as goal

pub chosen-init : goal.chosen-init
unfolding goes
chosen-init c = record { size = refl; marked = c.requires.none }

pub chosen-preserved : goal.chosen-preserved
chosen-preserved c =
    let groups = c.args.groups.now in
    let first : Txn = record { 0 = 0 } in
    record {
      size = c.mark_at.ensures.size ∙ c.chosen.invariant.size;
      marked = λ g. c.mark_at.ensures.marked g first ∙ ap (λ b. b || takes_along groups g (get_or c.args.chosen.now c.chosen.i first)) (c.chosen.invariant.marked g) ∙ sym (goes_more groups c.args.chosen.now c.chosen.i first g c.chosen-test.true);
    }
