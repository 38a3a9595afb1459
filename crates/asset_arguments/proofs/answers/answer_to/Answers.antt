use Rattle.std.proofs.Common.{rules}
use Rattle.asset_requests.specs.Answers.{answer_status}
use Rattle.asset_arguments.specs.Errors.{error_status}
use Rattle.asset_arguments.proofs.answers.answer_to.Goals as goal

pub returns-in_ok-to_string-in-DisplayHelp : goal.returns-in_ok-to_string-in-DisplayHelp
unfolding answer_status error_status
returns-in_ok-to_string-in-DisplayHelp c = search rules
