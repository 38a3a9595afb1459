use Rattle.std.proofs.Common.{rules}
use Rattle.asset_manager.proofs.book.Book.close.Goals as goal

pub returns-clause-each : goal.returns-clause-each
returns-clause-each c = rw (← c.as_slice.ensures.value) c.audit-audit.ensures.each

pub returns-clause-history : goal.returns-clause-history
returns-clause-history c = search rules
