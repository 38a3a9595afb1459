use Rattle.std.proofs.Common.{refl}
use Rattle.asset_entries.proofs.StoredLemmas.{entry_found, entry_absent}
use Rattle.asset_entries.proofs.entries.Entries.commit_at.Goals as goal

pub returns-in-Some : goal.returns-in-Some
returns-in-Some c =
    let sets = c.self.inside.sets.sets in
    let here = rw c.as_slice.ensures.value at c.in-Some.ensures.lookup in
    rw (← c.self.view_is, entry_found sets c.self.inside.entries.items c.args.index c.in-Some.stored.now here.0 here.1) (c.committed.ensures sets)

pub returns-in-None : goal.returns-in-None
returns-in-None c =
    let none = rw c.as_slice.ensures.value at c.in-None.ensures.lookup in
    rw (← c.self.view_is, entry_absent c.self.inside.sets.sets c.self.inside.entries.items c.args.index none.0) refl
