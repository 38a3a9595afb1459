use Rattle.std.proofs.Common.{ℕ, List, ap, ◌∙◌}
use Rattle.asset_names.specs.Arrows.{lists}
use Rattle.asset_lock_store.proofs.BlockingLemmas.{lists_inserted}
use Rattle.asset_ends.proofs.waiting.add.Goals as goal

pub returns-in-Ok : goal.returns-in-Ok
returns-in-Ok c = λ u. ap (λ (names : List ℕ). lists names u) c.in-Ok.ensures.keys ∙ lists_inserted c.args.t.0 u c.args.found.now.keys
