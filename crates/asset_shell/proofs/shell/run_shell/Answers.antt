use Rattle.std.proofs.lemmas.Result.{err_from_is_err_and}
use Rattle.asset_shell.specs.Turns.{StopsFor}
use Rattle.asset_shell.proofs.TurnLemmas.{none_stops}
use Rattle.asset_shell.proofs.shell.run_shell.Goals as goal

pub returns-in_err-piece-clause-stopped : goal.returns-in_err-piece-clause-stopped
returns-in_err-piece-clause-stopped g c =
    let p = err_from_is_err_and c.from_residual.result c.from_residual.ensures.1 in
    rw (p.1, p.2) (none_stops _ _)

pub returns-in_err-piece-clause-cause : goal.returns-in_err-piece-clause-cause
unfolding StopsFor
returns-in_err-piece-clause-cause g c =
    let p = err_from_is_err_and c.from_residual.result c.from_residual.ensures.1 in
    rw (p.1, p.2) tt
