use Rattle.std.proofs.Common.{refl, rules, sym, length}
use Rattle.std.proofs.lemmas.Bool.{ltb-true}
use Rattle.asset_entries.proofs.StoredLemmas.{entry_found, entry_absent, entry_there}
use Rattle.asset_entries.proofs.entries.Entries.entry_into.Goals as goal

pub put-requires : goal.put-requires
put-requires c =
    let here = rw c.as_slice.ensures.value at c.in-Some.ensures.lookup in
    record { there = rw (here.1) (entry_there (length c.self.inside.sets.sets) c.self.inside.entries.items c.args.index _ (ltb-true _ _ (sym here.0)) c.self.invariant.there) }

pub returns-in-Some-clause-entry : goal.returns-in-Some-clause-entry
returns-in-Some-clause-entry c =
    let sets = c.self.inside.sets.sets in
    let here = rw c.as_slice.ensures.value at c.in-Some.ensures.lookup in
    rw (← c.self.view_is, entry_found sets c.self.inside.entries.items c.args.index c.in-Some.stored.now here.0 here.1) (search rules)

pub returns-in-None-clause-entry : goal.returns-in-None-clause-entry
returns-in-None-clause-entry c =
    let none = rw c.as_slice.ensures.value at c.in-None.ensures.lookup in
    rw (← c.self.view_is, entry_absent c.self.inside.sets.sets c.self.inside.entries.items c.args.index none.0) refl
