use Rattle.std.proofs.Common.{rules}
use Rattle.asset_counts.proofs.watch.Watch.open.Goals as goal

pub of_words-requires : goal.of_words-requires
of_words-requires c = search rules
