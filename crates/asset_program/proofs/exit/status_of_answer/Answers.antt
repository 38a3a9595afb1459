use Rattle.std.proofs.Common.{rules}
use Rattle.asset_requests.specs.Answers.{answer_status}
use Rattle.asset_program.proofs.exit.status_of_answer.Goals as goal

pub returns-in-Fault-NoMemory : goal.returns-in-Fault-NoMemory
unfolding answer_status
returns-in-Fault-NoMemory c = search rules
