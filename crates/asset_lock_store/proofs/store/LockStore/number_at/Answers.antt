use Rattle.std.proofs.Common.{◌≡◌, Some, sym, ap, ◌∙◌}
use Rattle.asset_names.proofs.Common.{some_of}
use Rattle.asset_chains.specs.Chained.{home_of}
use Rattle.asset_lists.specs.declared.part.Part.{Part}
use Rattle.asset_lists.specs.Parted.{part_of}
use Rattle.asset_lock_store.specs.Stored.{Stored, lock_at, part_for, class_of}
use Rattle.asset_lock_store.proofs.StoreLemmas.{list_of}
use Rattle.asset_lock_store.proofs.store.LockStore.number_at.Goals as goal

pub returns : goal.returns
returns c =
    let at = some_of (home_of c.args.self.now.by_owner c.args.key) c.requires in
    let placed = c.laws.ensures.stored.placed c.args.key at.0 at.1 in
    let class = class_of (lock_at c.args.self.now.locks c.args.key).ops in
    let same : Some c.in-Some.part ≡ Some (part_for placed.number class) = c.in-Some.ensures ∙ ap (λ (s : Stored). part_of s.by_object c.args.key) c.self.view_is ∙ placed.part in
    let is : c.in-Some.part ≡ part_for placed.number class = cc in
    placed.numbered ∙ ap Some (sym (ap (λ (p : Part). p.list) is ∙ list_of placed.number class))
