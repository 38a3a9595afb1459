use Rattle.std.proofs.Common.{take, ap, arith}
use Rattle.std.proofs.lemmas.List.{length-take-le}
use Rattle.std.proofs.lemmas.Result.{err_from_is_err_and}
use Rattle.asset_scripts.specs.declared.faults.ScriptFault.TheVariants.{Write, NoMemory}
use Rattle.asset_shell.specs.Talking.{Talk}
use Rattle.asset_shell.proofs.TalkLemmas.{number_after}
use Rattle.asset_shell.proofs.TurnLemmas.{gave_some, no_memory_is_no_read, none_taken, part_more, part_stops, read_failed, up_to_date_more, write_is_no_read}
use Rattle.asset_shell.proofs.conversation.Conversation.turn.Goals as goal

pub returns-in_default-clause-stopped : goal.returns-in_default-clause-stopped
returns-in_default-clause-stopped g c = λ start capacity u. read_failed start _ _ _ _ capacity _ u c.in_default.ensures.gave_nothing

pub returns-in_err-hear-clause-stopped : goal.returns-in_err-hear-clause-stopped
returns-in_err-hear-clause-stopped g c =
    let p = err_from_is_err_and c.from_residual.result c.from_residual.ensures.1 in
    rw (p.1, p.2, c.in_err-hear.ensures.memory) (λ start capacity u. part_stops start _ capacity NoMemory no_memory_is_no_read (part_more start _ _ capacity _ _ u c.in-Some.ensures.gave (none_taken _ _) (none_taken _ _)))

pub returns-in_err-write_answers-clause-stopped : goal.returns-in_err-write_answers-clause-stopped
returns-in_err-write_answers-clause-stopped g c =
    let p = err_from_is_err_and c.from_residual-in_err-write_answers.result c.from_residual-in_err-write_answers.ensures.1 in
    let replies = rw (c.in_ok-hear.ensures.replies, c.new-answers.ensures.replies) at c.in_err-write_answers.ensures.part_replies in
    let reasons = rw (c.in_ok-hear.ensures.reasons, c.new-answers.ensures.reasons) at c.in_err-write_answers.ensures.part_reasons in
    rw (p.1, p.2, c.in_err-write_answers.ensures.fault) (λ start capacity u. part_stops start _ capacity Write write_is_no_read (part_more start _ _ capacity _ _ u c.in-Some.ensures.gave replies reasons))

pub returns-clause-up_to_date : goal.returns-clause-up_to_date
returns-clause-up_to_date g c = λ start capacity u.
    let replies = rw (c.in_ok-hear.ensures.replies, c.new-answers.ensures.replies) at c.in_ok-write_answers.ensures.replies in
    let reasons = rw (c.in_ok-hear.ensures.reasons, c.new-answers.ensures.reasons) at c.in_ok-write_answers.ensures.reasons in
    up_to_date_more start _ _ capacity _ _ _ u c.in-Some.ensures.gave c.in_ok-hear.ensures.heard replies reasons

pub returns-clause-few : goal.returns-clause-few
returns-clause-few g c =
    let piece = take c.in-Some.count c.ask_reader.new.piece in
    omega (arith, ap (λ (t : Talk). t.number) c.in_ok-hear.ensures.heard, number_after c.args.self.now piece, length-take-le c.in-Some.count c.ask_reader.new.piece c.in-Some.ensures.bound, c.in-Some.ensures.bound)

pub returns-clause-gave : goal.returns-clause-gave
returns-clause-gave g c = gave_some _ _ c.in-Some.count c.ask_reader.new.piece c.in-Some.ensures.bound c.in-Some.ensures.gave
