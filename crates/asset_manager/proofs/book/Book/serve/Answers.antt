use Rattle.std.proofs.Common.{rules}
use Rattle.asset_manager.proofs.book.Book.serve.Goals as goal

pub returns-clause-served : goal.returns-clause-served
returns-clause-served c = search rules
