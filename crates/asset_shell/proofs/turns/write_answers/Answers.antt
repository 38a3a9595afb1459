use Rattle.std.proofs.lemmas.Result.{err_from_is_err_and}
use Rattle.asset_scripts.specs.Transfers.{TookPrefix}
use Rattle.asset_shell.proofs.TurnLemmas.{all_taken, none_taken}
use Rattle.asset_shell.proofs.turns.write_answers.Goals as goal

pub returns-in_err-write_all-clause-part_replies : goal.returns-in_err-write_all-clause-part_replies
unfolding TookPrefix
returns-in_err-write_all-clause-part_replies g c =
    let p = err_from_is_err_and c.from_residual.result c.from_residual.ensures.1 in
    rw (p.1) (rw c.as_bytes.ensures.value at c.in_err-write_all.ensures.prefix)

pub returns-in_err-write_all-clause-part_reasons : goal.returns-in_err-write_all-clause-part_reasons
returns-in_err-write_all-clause-part_reasons g c =
    let p = err_from_is_err_and c.from_residual.result c.from_residual.ensures.1 in
    rw (p.1) (none_taken _ _)

pub returns-in_err-write_all-2-clause-part_replies : goal.returns-in_err-write_all-2-clause-part_replies
returns-in_err-write_all-2-clause-part_replies g c =
    let p = err_from_is_err_and c.from_residual-in_err-write_all-2.result c.from_residual-in_err-write_all-2.ensures.1 in
    rw (p.1) (all_taken _ _ _ (rw c.as_bytes.ensures.value at c.in_ok-write_all.ensures.took))

pub returns-in_err-write_all-2-clause-part_reasons : goal.returns-in_err-write_all-2-clause-part_reasons
unfolding TookPrefix
returns-in_err-write_all-2-clause-part_reasons g c =
    let p = err_from_is_err_and c.from_residual-in_err-write_all-2.result c.from_residual-in_err-write_all-2.ensures.1 in
    rw (p.1) (rw c.as_bytes-2.ensures.value at c.in_err-write_all-2.ensures.prefix)
