-- How jobs end that were not run to their end.
use Rattle.std.proofs.Common.{◌≡◌, ℕ, List, refl, inr}
use Rattle.std.specs.Prelude.{Option}
use Rattle.asset_scripts.specs.Device.{DeviceState}
use Rattle.asset_job_runs.specs.declared.jobs_end.JobsStop.{JobsStop}
use Rattle.asset_job_runs.specs.declared.jobs_end.JobsStop.TheVariants.{BadLine, Read, Write, NoMemory, OutOfRange, InUse}
use Rattle.asset_job_runs.specs.JobsEnd.{EndsStopped, SaysBadLine, stop_status}

-- a fault is none of the bad lines
pub ends_at_fault : {W : Type 0} (contents : W → Option (List ℕ)) (stop : JobsStop) (old : DeviceState W) (status : ℕ) → ((n : ℕ) → stop ≡ BadLine n → ⊥) → status ≡ stop_status stop → EndsStopped contents stop old old status
unfolding EndsStopped
ends_at_fault contents (BadLine n) old status no_line says = absurd (no_line n refl)
ends_at_fault contents Read old status no_line says = (says, refl)
ends_at_fault contents Write old status no_line says = (says, refl)
ends_at_fault contents NoMemory old status no_line says = (says, refl)
ends_at_fault contents OutOfRange old status no_line says = (says, refl)
ends_at_fault contents InUse old status no_line says = (says, refl)

-- a bad line that was not written, as memory ran out
pub says_nothing : {W : Type 0} (contents : W → Option (List ℕ)) (n : ℕ) (old : DeviceState W) (status : ℕ) → status ≡ 1 → SaysBadLine contents n old old status
unfolding SaysBadLine
says_nothing contents n old status one = inr (one, inr refl)
