use Rattle.std.proofs.Common.{◌≡◌, arith, length}
use Rattle.std.proofs.lemmas.List.{length-append}
use Rattle.asset_names.specs.Answers.{IsLegal}
use Rattle.asset_entries.specs.Recorded.{answer_to, with_entry}
use Rattle.asset_entries.proofs.TagLemmas.{made_again}
use Rattle.asset_entries.proofs.StoredLemmas.{entries_appended, entries_length, there_appended, sets_more}
use Rattle.asset_entries.proofs.entries.Entries.append_lent.Goals as goal

pub push_set-requires : goal.push_set-requires
push_set-requires c = record {
  room = omega (arith, rw (← c.self.view_is, entries_length c.self.inside.sets.sets c.self.inside.entries.items) at c.requires.room, c.self.invariant.fewer, c.self.invariant.taken_sets);
}

pub push_reserved-requires : goal.push_reserved-requires
push_reserved-requires c =
    let below = rw (← c.self.view_is, entries_length c.self.inside.sets.sets c.self.inside.entries.items) at c.requires.room in
    omega (arith, below, c.self.invariant.taken, c.self.inside.entries.ok)

pub invariant_of-self : goal.invariant_of-self
unfolding IsLegal answer_to
invariant_of-self c =
    let pushed = c.push_reserved.ensures.items in
    let stored_sets = c.push_set.ensures.sets in
    let stored = c.of-stored.ensures in
    let kept = c.self.invariant in
    let step = c.args.step.now in
    let permits = c.self.inside.sets.sets in
    let count : c.len.result ≡ length permits = omega (arith, c.len.ensures) in
    let below = rw (← c.self.view_is, entries_length c.self.inside.sets.sets c.self.inside.entries.items) at c.requires.room in
    let answered = rw (← c.self.view_is) at c.requires.answer in
    let same = made_again _ _ step c.args.reply answered in
    record {
      different = kept.different;
      legal = rw (pushed, stored_sets, stored, entries_appended step c.args.reply permits c.self.inside.entries.items c.len.result same count kept.there) (answered, kept.legal);
      there = rw (pushed, stored_sets, stored) (there_appended step c.args.reply permits c.self.inside.entries.items c.len.result count kept.there);
      fewer = rw (pushed, stored_sets, length-append) (omega (arith, kept.fewer, (sets_more step permits).1));
      within = rw (pushed, length-append) (omega (arith, below));
      taken = omega (arith, kept.taken, c.push_reserved.ensures.capacity);
      taken_sets = omega (arith, kept.taken_sets, c.push_set.ensures.room);
    }

pub returns : goal.returns
unfolding with_entry answer_to
returns c =
    let count : c.len.result ≡ length c.self.inside.sets.sets = omega (arith, c.len.ensures) in
    let same = made_again _ _ c.args.step.now c.args.reply c.requires.answer in
    rw (
      ← c.self.view_is,
      c.push_reserved.ensures.items,
      c.push_set.ensures.sets,
      c.of-stored.ensures,
      entries_appended c.args.step.now c.args.reply c.self.inside.sets.sets c.self.inside.entries.items c.len.result same count c.self.invariant.there,
    )
