use Rattle.std.proofs.Common.{arith}
use Rattle.asset_entries.proofs.StoredLemmas.{entries_length}
use Rattle.asset_entries.proofs.entries.Entries.len.Goals as goal

pub returns-clause-len : goal.returns-clause-len
returns-clause-len c = rw (← c.self.view_is) (omega (arith, c.len.ensures, entries_length c.self.inside.sets.sets c.self.inside.entries.items))

pub returns-clause-within : goal.returns-clause-within
returns-clause-within c = rw (← c.self.view_is) (omega (arith, entries_length c.self.inside.sets.sets c.self.inside.entries.items, c.self.invariant.within))

pub returns-clause-small : goal.returns-clause-small
returns-clause-small c =
    let entries = c.self.inside.entries in
    rw (← c.self.view_is) (omega (arith, entries_length c.self.inside.sets.sets entries.items, entries.ok.0, entries.ok.1, entries.small))
