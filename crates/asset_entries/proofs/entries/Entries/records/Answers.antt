use Rattle.std.proofs.Common.{◌≡◌, ◌∙◌, refl, sym, ap, length, reverse, None, Some}
use Rattle.std.specs.Prelude.{slice_get}
use Rattle.std.proofs.lemmas.Bool.{ltb-true, false≢true}
use Rattle.asset_entries.specs.Stored.{entry_of}
use Rattle.asset_entries.proofs.StoredLemmas.{entry_found, entry_absent, entry_there}
use Rattle.asset_entries.proofs.SameLemmas.{some_is_one, none_is_no_entry}
use Rattle.asset_entries.proofs.entries.Entries.records.Goals as goal

pub records-requires : goal.records-requires
records-requires c =
    let here = rw c.as_slice.ensures.value at c.in-Some.ensures.lookup in
    record { there = rw (here.1) (entry_there (length c.self.inside.sets.sets) c.self.inside.entries.items c.args.index _ (ltb-true _ _ (sym here.0)) c.self.invariant.there) }

pub returns-in-Some : goal.returns-in-Some
returns-in-Some c =
    let sets = c.self.inside.sets.sets in
    let here = rw c.as_slice.ensures.value at c.in-Some.ensures.lookup in
    let entry : slice_get (reverse c.args.self.now.entries) c.args.index ≡ Some (entry_of sets c.in-Some.stored.now) = rw (← c.self.view_is, entry_found sets c.self.inside.entries.items c.args.index c.in-Some.stored.now here.0 here.1) refl in
    (λ yes. entry ∙ ap Some (c.records.ensures.same yes), λ is. c.records.ensures.found (some_is_one _ _ (sym entry ∙ is)))

pub returns-in-None : goal.returns-in-None
returns-in-None c =
    let none = rw c.as_slice.ensures.value at c.in-None.ensures.lookup in
    let no_entry : slice_get (reverse c.args.self.now.entries) c.args.index ≡ None = rw (← c.self.view_is, entry_absent c.self.inside.sets.sets c.self.inside.entries.items c.args.index none.0) refl in
    (λ yes. absurd (false≢true yes), λ is. absurd (none_is_no_entry _ (sym no_entry ∙ is)))
