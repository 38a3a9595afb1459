use Rattle.std.proofs.Common.{rules}
use Rattle.asset_manager.proofs.book.Book.serve_lent.Goals as goal

pub ask-requires : goal.ask-requires
ask-requires c = search rules
