use Rattle.std.proofs.Common.{ap, ◌∙◌}
use Rattle.asset_scripts.specs.Renders.{end_at}
use Rattle.asset_shell.specs.Talking.{Talk}
use Rattle.std.proofs.lemmas.Result.{err_from_is_err_and}
use Rattle.asset_scripts.specs.declared.faults.ScriptFault.TheVariants.{Write, NoMemory}
use Rattle.asset_shell.proofs.TurnLemmas.{finished_all, finished_part, no_memory_is_no_read, none_taken, part_stops, write_is_no_read}
use Rattle.asset_shell.proofs.conversation.Conversation.finish.Goals as goal

pub returns-in_err-hear_end-clause-stopped : goal.returns-in_err-hear_end-clause-stopped
returns-in_err-hear_end-clause-stopped g c =
    let p = err_from_is_err_and c.from_residual.result c.from_residual.ensures.1 in
    rw (p.1, p.2, c.in_err-hear_end.ensures.memory) (λ start capacity left u. part_stops start _ capacity NoMemory no_memory_is_no_read (finished_part start left _ _ _ _ capacity _ u (none_taken _ _) (none_taken _ _)))

pub returns-in_err-write_answers-clause-stopped : goal.returns-in_err-write_answers-clause-stopped
returns-in_err-write_answers-clause-stopped g c =
    let p = err_from_is_err_and c.from_residual-in_err-write_answers.result c.from_residual-in_err-write_answers.ensures.1 in
    let replies = rw (c.in_ok-hear_end.ensures.replies, c.new-answers.ensures.replies) at c.in_err-write_answers.ensures.part_replies in
    let reasons = rw (c.in_ok-hear_end.ensures.reasons, c.new-answers.ensures.reasons) at c.in_err-write_answers.ensures.part_reasons in
    rw (p.1, p.2, c.in_err-write_answers.ensures.fault) (λ start capacity left u. part_stops start _ capacity Write write_is_no_read (finished_part start left _ _ _ _ capacity _ u replies reasons))

pub returns-clause-wrote : goal.returns-clause-wrote
returns-clause-wrote g c = λ start capacity left u at_end.
    let replies = rw (c.in_ok-hear_end.ensures.replies, c.new-answers.ensures.replies) at c.in_ok-write_answers.ensures.replies in
    let reasons = rw (c.in_ok-hear_end.ensures.reasons, c.new-answers.ensures.reasons) at c.in_ok-write_answers.ensures.reasons in
    finished_all start left _ _ _ _ capacity _ _ u at_end replies reasons (c.end.ensures ∙ ap (λ (t : Talk). end_at t.bad) c.in_ok-hear_end.ensures.ended)
