use Rattle.asset_ends.proofs.ending.end_writes.Goals as goal

pub returns-in-Committed-clause-cells : goal.returns-in-Committed-clause-cells
returns-in-Committed-clause-cells c = rw c.in-Committed.is c.settle.ensures.cells

pub returns-in-Aborted-clause-cells : goal.returns-in-Aborted-clause-cells
returns-in-Aborted-clause-cells c = rw c.in-Aborted.is c.undo.ensures.cells
