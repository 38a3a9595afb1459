use Rattle.std.proofs.Common.{arith, rules}
use Rattle.asset_marks.proofs.marks.Marks.add.Goals as goal

pub returns-clause-there : goal.returns-clause-there
returns-clause-there c = search rules

pub returns-clause-standing : goal.returns-clause-standing
returns-clause-standing c = search rules

pub returns-clause-more : goal.returns-clause-more
returns-clause-more c = search rules

pub returns-clause-no_more : goal.returns-clause-no_more
returns-clause-no_more c = omega arith

pub returns-clause-nodes : goal.returns-clause-nodes
returns-clause-nodes c = search rules

pub returns-in_err-grow-clause-there : goal.returns-in_err-grow-clause-there
returns-in_err-grow-clause-there c = search rules

pub returns-in_err-grow-clause-standing : goal.returns-in_err-grow-clause-standing
returns-in_err-grow-clause-standing c = search rules

pub returns-in_err-grow-clause-more : goal.returns-in_err-grow-clause-more
returns-in_err-grow-clause-more c = search rules

pub returns-in_err-grow-clause-no_more : goal.returns-in_err-grow-clause-no_more
returns-in_err-grow-clause-no_more c = search rules

pub returns-in_err-grow-clause-nodes : goal.returns-in_err-grow-clause-nodes
returns-in_err-grow-clause-nodes c = search rules
