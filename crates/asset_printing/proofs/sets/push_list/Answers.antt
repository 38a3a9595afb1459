use Rattle.asset_printing.proofs.SetLemmas.{no_objects_small, one_small}
use Rattle.asset_printing.proofs.sets.push_list.Goals as goal
use Rattle.asset_names.proofs.Common.{on_ok}

pub returns-in-None-clause-small : goal.returns-in-None-clause-small
returns-in-None-clause-small c = no_objects_small c.args.objects.now c.in-None.ensures.cases

pub returns-in_ok-push_number-in-Some-clause-small : goal.returns-in_ok-push_number-in-Some-clause-small
returns-in_ok-push_number-in-Some-clause-small c =
    let small = c.push_number.ensures.small in
    rw (c.in-Some.ensures.cases.0) (on_ok c.push_more.result (one_small c.in-Some.first.now c.in-Some.rest.now small) c.push_more.ensures.small)
