-- The exit status with an answer in place of a run.
use Rattle.std.specs.Prelude.{ℕ}
use Rattle.asset_requests.specs.declared.answers.ArgumentsFault.TheVariants.{NotText, NoMemory}
use Rattle.asset_requests.specs.declared.answers.Answer.{Answer}
use Rattle.asset_requests.specs.declared.answers.Answer.TheVariants.{Help, Refusal, Fault}

-- 0 for help and the version, 2 if the arguments are refused or one is not valid UTF-8, and 1 if memory ran out
unfoldable pub answer_status : Answer → ℕ
answer_status (Help text) = 0
answer_status (Refusal text) = 2
answer_status (Fault NotText) = 2
answer_status (Fault NoMemory) = 1
