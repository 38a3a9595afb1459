use Rattle.asset_queue.specs.Each.{IsAmong}
use Rattle.asset_queue.proofs.work.run.Given as goal

-- the jobs that may be in the queue are those that were given
abbrev pub ghosts-run_shared : goal.ghosts-run_shared
ghosts-run_shared g a = record { from = λ j. IsAmong a.all.items j }
