use Rattle.asset_models.specs.Follows.{after_acts}
use Rattle.asset_models.proofs.RunLemmas.{then, then_run}
use Rattle.asset_models.proofs.TurnLemmas.{turn_done, turn_first_failed, turn_second_failed, turn_first_cut, turn_second_cut, no_other_left, no_first_left, rest_follows, rest_cut}
use Rattle.asset_models.proofs.cooperation.in_turn.Goals as goal

pub returns-in-None-clause-follows : goal.returns-in-None-clause-follows
returns-in-None-clause-follows g c = rest_follows _ _ _ _ (no_other_left _ _ _ _ _ _ c.in-Some.ensures.cases.0 c.in-None.ensures.cases) _ _ _ _ c.turns.invariant c.rest_of.ensures.follows

pub returns-in-None-clause-cut : goal.returns-in-None-clause-cut
returns-in-None-clause-cut g c = rest_cut _ _ _ _ (no_other_left _ _ _ _ _ _ c.in-Some.ensures.cases.0 c.in-None.ensures.cases) _ _ _ _ c.turns.invariant c.rest_of.ensures.cut

pub returns-in-Ok-false-clause-follows : goal.returns-in-Ok-false-clause-follows
unfolding after_acts
returns-in-Ok-false-clause-follows g c = λ next failed.
    then (c.turns.invariant next failed)
    (turn_first_failed _ _ _ _ _ _ _ _ c.in-Some.ensures.cases.0 c.in-Some-split_first.ensures.cases.0 c.in-Ok-false.field-0 c.in-Ok-false.field-0-test next failed _ _ c.in-Ok-false.ensures.follows)

pub returns-in-Err-clause-cut : goal.returns-in-Err-clause-cut
returns-in-Err-clause-cut g c = λ next failed.
    then_run (c.turns.invariant next failed) _ _
    (turn_first_cut _ _ _ _ _ _ _ _ c.in-Some.ensures.cases.0 c.in-Some-split_first.ensures.cases.0 next failed _ _ _ c.in-Err.ensures.cut)

pub returns-in-Ok-false-do_act-clause-follows : goal.returns-in-Ok-false-do_act-clause-follows
unfolding after_acts
returns-in-Ok-false-do_act-clause-follows g c = λ next failed.
    then (c.turns.invariant next failed)
    (turn_second_failed _ _ _ _ _ _ _ _ c.in-Some.ensures.cases.0 c.in-Some-split_first.ensures.cases.0 c.in-Ok-true.field-0 c.in-Ok-false-do_act.field-0 c.in-Ok-true.field-0-test c.in-Ok-false-do_act.field-0-test next failed _ _ _ c.in-Ok-true.ensures.follows c.in-Ok-false-do_act.ensures.follows)

pub returns-in-Err-do_act-clause-cut : goal.returns-in-Err-do_act-clause-cut
returns-in-Err-do_act-clause-cut g c = λ next failed.
    then_run (c.turns.invariant next failed) _ _
    (turn_second_cut _ _ _ _ _ _ _ _ c.in-Some.ensures.cases.0 c.in-Some-split_first.ensures.cases.0 c.in-Ok-true.field-0 c.in-Ok-true.field-0-test next failed _ _ _ _ c.in-Ok-true.ensures.follows c.in-Err-do_act.ensures.cut)

pub turns-preserved : goal.turns-preserved
turns-preserved g c = λ next failed.
    then (c.turns.invariant next failed)
    (turn_done _ _ _ _ _ _ _ _ c.in-Some.ensures.cases.0 c.in-Some-split_first.ensures.cases.0 c.in-Ok-true.field-0 c.in-Ok-true-do_act.field-0 c.in-Ok-true.field-0-test c.in-Ok-true-do_act.field-0-test next failed _ _ _ c.in-Ok-true.ensures.follows c.in-Ok-true-do_act.ensures.follows)

pub returns-clause-follows : goal.returns-clause-follows
returns-clause-follows g c = rest_follows _ _ _ _ (no_first_left _ _ _ _ c.in_default.ensures.cases) _ _ _ _ c.turns.invariant c.rest_of-2.ensures.follows

pub returns-clause-cut : goal.returns-clause-cut
returns-clause-cut g c = rest_cut _ _ _ _ (no_first_left _ _ _ _ c.in_default.ensures.cases) _ _ _ _ c.turns.invariant c.rest_of-2.ensures.cut
