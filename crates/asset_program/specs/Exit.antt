-- The exit status of the program.
use Rattle.std.specs.Prelude.{ℕ, Result, Ok, Err}
use Rattle.asset_scripts.specs.declared.ends.RunEnd.{RunEnd}
use Rattle.asset_scripts.specs.declared.ends.RunEnd.TheVariants.{Finished, BadLine, Shared}
use Rattle.asset_scripts.specs.declared.faults.ScriptFault.{ScriptFault}

-- a run: 0 if each line was looked at, 2 if one was bad, and 1 at a fault or if there is no serial history
unfoldable pub run_status : Result RunEnd ScriptFault → ℕ
run_status (Ok Finished) = 0
run_status (Ok (BadLine n)) = 2
run_status (Ok Shared) = 1
run_status (Err fault) = 1
