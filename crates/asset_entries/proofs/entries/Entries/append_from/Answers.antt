use Rattle.std.proofs.Common.{◌≡◌, ◌<◌, ◌∙◌, refl, sym, ap, arith, length, reverse, Some}
use Rattle.std.specs.Prelude.{slice_get}
use Rattle.std.proofs.lemmas.List.{length-append}
use Rattle.std.proofs.lemmas.Option.{slice_get-get_or}
use Rattle.asset_names.specs.Answers.{IsLegal}
use Rattle.asset_entries.specs.Stored.{entry_of}
use Rattle.asset_entries.specs.Recorded.{answer_to, with_entry}
use Rattle.asset_entries.proofs.SameLemmas.{some_is_one}
use Rattle.asset_entries.proofs.StoredLemmas.{entries_moved, entries_length, entry_stored, entry_there, there_moved, sets_more}
use Rattle.asset_entries.proofs.entries.Entries.append_from.Goals as goal

pub index-requires : goal.index-requires
index-requires c =
    let others = c.other.inside in
    omega (arith, rw (← c.other.view_is, entries_length others.sets.sets others.entries.items) at c.requires.there)

pub copy_set-requires-clause-there : goal.copy_set-requires-clause-there
copy_set-requires-clause-there c =
    let others = c.other.inside in
    let below : c.args.index < length others.entries.items = omega (arith, rw (← c.other.view_is, entries_length others.sets.sets others.entries.items) at c.requires.there) in
    rw c.index.ensures (entry_there (length others.sets.sets) others.entries.items c.args.index _ below c.other.invariant.there)

pub copy_set-requires-clause-room : goal.copy_set-requires-clause-room
copy_set-requires-clause-room c = omega (arith, rw (← c.self.view_is, entries_length c.self.inside.sets.sets c.self.inside.entries.items) at c.requires.room, c.self.invariant.fewer, c.self.invariant.taken_sets)

pub push_reserved-requires : goal.push_reserved-requires
push_reserved-requires c =
    let below = rw (← c.self.view_is, entries_length c.self.inside.sets.sets c.self.inside.entries.items) at c.requires.room in
    omega (arith, below, c.self.invariant.taken, c.self.inside.entries.ok)

pub invariant_of-self : goal.invariant_of-self
unfolding IsLegal answer_to
invariant_of-self c =
    let others = c.other.inside in
    let own = c.self.inside in
    let stored = c.index.result.now in
    let kept = c.self.invariant in
    let pushed = rw c.moved-moved.ensures at c.push_reserved.ensures.items in
    let count : c.len.result ≡ length own.sets.sets = omega (arith, c.len.ensures) in
    let below = rw (← c.self.view_is, entries_length own.sets.sets own.entries.items) at c.requires.room in
    let within : c.args.index < length others.entries.items = omega (arith, rw (← c.other.view_is, entries_length others.sets.sets others.entries.items) at c.requires.there) in
    let found : slice_get others.entries.items c.args.index ≡ Some stored = slice_get-get_or others.entries.items c.args.index stored within ∙ ap Some (sym c.index.ensures) in
    let at : slice_get (reverse c.args.other.now.entries) c.args.index ≡ Some (entry_of others.sets.sets stored) = rw (← c.other.view_is, entry_stored others.sets.sets others.entries.items c.args.index, found) refl in
    let answered = rw (← c.self.view_is) at (c.requires.answer (entry_of others.sets.sets stored) at) in
    record {
      different = kept.different;
      legal = rw (pushed, c.copy_set.ensures.sets, entries_moved others.sets.sets own.sets.sets stored own.entries.items c.len.result count kept.there) (answered, kept.legal);
      there = rw (pushed, c.copy_set.ensures.sets) (there_moved others.sets.sets own.sets.sets stored own.entries.items c.len.result count kept.there);
      fewer = rw (pushed, c.copy_set.ensures.sets, length-append) (omega (arith, kept.fewer, (sets_more (entry_of others.sets.sets stored).0 own.sets.sets).1));
      within = rw (pushed, length-append) (omega (arith, below));
      taken = omega (arith, kept.taken, c.push_reserved.ensures.capacity);
      taken_sets = omega (arith, kept.taken_sets, c.copy_set.ensures.room);
    }

pub returns : goal.returns
unfolding with_entry
returns c = λ entry at.
    let others = c.other.inside in
    let own = c.self.inside in
    let stored = c.index.result.now in
    let count : c.len.result ≡ length own.sets.sets = omega (arith, c.len.ensures) in
    let within : c.args.index < length others.entries.items = omega (arith, rw (← c.other.view_is, entries_length others.sets.sets others.entries.items) at c.requires.there) in
    let found : slice_get others.entries.items c.args.index ≡ Some stored = slice_get-get_or others.entries.items c.args.index stored within ∙ ap Some (sym c.index.ensures) in
    let here : slice_get (reverse c.args.other.now.entries) c.args.index ≡ Some (entry_of others.sets.sets stored) = rw (← c.other.view_is, entry_stored others.sets.sets others.entries.items c.args.index, found) refl in
    let same : entry_of others.sets.sets stored ≡ entry = some_is_one _ _ (sym here ∙ at) in
    rw (
      ← c.self.view_is,
      ← same,
      rw c.moved-moved.ensures at c.push_reserved.ensures.items,
      c.copy_set.ensures.sets,
      entries_moved others.sets.sets own.sets.sets stored own.entries.items c.len.result count c.self.invariant.there,
    ) refl
