use Rattle.asset_reasons.specs.Mistakes.{operands_of}
use Rattle.asset_reasons.proofs.words.operands_of.Goals as goal

pub returns-in-TxnsOpsAndSet : goal.returns-in-TxnsOpsAndSet
unfolding operands_of
returns-in-TxnsOpsAndSet c = rw c.in-TxnsOpsAndSet.is c.permit_operands.ensures
