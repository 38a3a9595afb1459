use Rattle.std.proofs.Common.{Err, ap, ◌∙◌, inr, arith, rules}
use Rattle.std.proofs.lemmas.Result.{err_from_is_err_and}
use Rattle.asset_scripts.specs.Device.{counted}
use Rattle.asset_shell.specs.Talking.{new_talk}
use Rattle.asset_shell.specs.Turns.{StopsFor, StopsWith}
use Rattle.asset_shell.proofs.TurnLemmas.{up_to_date_new, stops_for}
use Rattle.asset_shell.proofs.shell.talk.Goals as goal

pub requests-init : goal.requests-init
unfolding new_talk counted
requests-init g c = record {
  up_to_date = rw c.requires.new (up_to_date_new _ _);
  few = rw c.requires.new (omega arith);
  asked = omega arith;
  room = c.requires.room;
}

pub returns-clause-stopped : goal.returns-clause-stopped
unfolding StopsWith
returns-clause-stopped g c = (c.requests.conversation, c.requests.invariant.up_to_date)

pub requests-preserved : goal.requests-preserved
unfolding counted
requests-preserved g c = record {
  up_to_date = c.in_ok-turn.ensures.up_to_date _ _ c.requests.invariant.up_to_date;
  few = omega (arith, c.in_ok-turn.ensures.few, c.requests.invariant.few, c.requests.invariant.room);
  asked = omega (arith, c.turn.ensures.asked, c.requests.invariant.asked);
  room = search rules;
}

-- a turn notes which of the devices failed
pub returns-in_err-turn-clause-cause : goal.returns-in_err-turn-clause-cause
returns-in_err-turn-clause-cause g c =
    let p = err_from_is_err_and c.from_residual.result c.from_residual.ensures.1 in
    rw (p.1, p.2) (stops_for c.args.input.now c.turn.new.input c.turn.new.output c.turn.new.errors c.in_err-turn.field-0.0
    (λ is. c.turn.ensures.read (c.in_err-turn.was ∙ ap Err is)) (λ is. c.turn.ensures.write (c.in_err-turn.was ∙ ap Err is)))

pub returns-in_err-end-clause-cause : goal.returns-in_err-end-clause-cause
returns-in_err-end-clause-cause g c =
    let p = err_from_is_err_and c.from_residual-in_err-end.result c.from_residual-in_err-end.ensures.1 in
    rw (p.1, p.2) (stops_for c.args.input.now c.turn.new.input c.finish.new.output c.finish.new.errors c.in_err-end.field-0.0
    (λ is. absurd (c.finish.ensures.read (c.in_err-end.was ∙ ap Err is))) (λ is. c.finish.ensures.write (c.in_err-end.was ∙ ap Err is)))

pub returns-clause-cause : goal.returns-clause-cause
unfolding StopsFor counted
returns-clause-cause g c = inr (omega (arith, c.requests.invariant.asked))
