use Rattle.std.proofs.Common.{◌≡◌, ℕ, ◌<◌, List, length, reverse, sym, ap, ◌∙◌, arith, Some, inl, inr}
use Rattle.std.specs.Prelude.{slice_get}
use Rattle.std.proofs.lemmas.List.{length-reverse}
use Rattle.std.proofs.lemmas.Option.{slice_get_cases}
use Rattle.asset_names.specs.Steps.{Entry}
use Rattle.asset_names.specs.declared.replies.Outcome.TheVariants.{Answer}
use Rattle.asset_entries.specs.Recorded.{Recorded, answer_to}
use Rattle.asset_history.proofs.HistoryLemmas.{capacity_next, size_next, legal_next, labels_next_ready, kept_next_ready}
use Rattle.asset_history.proofs.history.History.append_from.Goals as goal

-- the entry that is appended
entry_at : (entries : List Entry) (i : ℕ) → i < length entries → (entry : Entry) × (slice_get (reverse entries) i ≡ Some entry)
entry_at entries i below = elim (slice_get_cases (reverse entries) i).1 [
  | inl here ↦ (here.0, here.2)
  | inr past ↦ absurd (omega (arith, past.0, length-reverse entries))
]

pub note_newest-requires-clause-newest : goal.note_newest-requires-clause-newest
note_newest-requires-clause-newest c =
    let old = c.self.inside.entries in
    let new = c.append_from.new.self in
    let one = entry_at c.other.inside.entries.entries c.args.index (rw (← c.other.view_is) at c.requires.there) in
    let is = c.append_from.ensures one.0 one.1 in
    size_next old new one.0.0 one.0.1 c.len-newest.result is c.len-newest.ensures.len

pub note_newest-requires-clause-legal : goal.note_newest-requires-clause-legal
note_newest-requires-clause-legal c =
    let old = c.self.inside.entries in
    let new = c.append_from.new.self in
    let one = entry_at c.other.inside.entries.entries c.args.index (rw (← c.other.view_is) at c.requires.there) in
    let is = c.append_from.ensures one.0 one.1 in
    let there = ap (λ (history : Recorded). slice_get (reverse history.entries) c.args.index) (sym c.other.view_is) ∙ one.1 in
    let answered : answer_to old one.0.0 ≡ Answer one.0.1 = ap (λ (history : Recorded). answer_to history one.0.0) c.self.view_is ∙ c.requires.answer one.0 there in
    legal_next old new one.0.0 one.0.1 c.len-newest.result is c.len-newest.ensures.len c.len-newest.ensures.legal answered

pub note_newest-requires-clause-labels : goal.note_newest-requires-clause-labels
note_newest-requires-clause-labels c =
    let old = c.self.inside.entries in
    let new = c.append_from.new.self in
    let one = entry_at c.other.inside.entries.entries c.args.index (rw (← c.other.view_is) at c.requires.there) in
    let is = c.append_from.ensures one.0 one.1 in
    labels_next_ready old new one.0.0 one.0.1 c.len-newest.result is c.len-newest.ensures.len c.self.inside.kept.groups c.self.invariant.labels

pub note_newest-requires-clause-kept : goal.note_newest-requires-clause-kept
note_newest-requires-clause-kept c =
    let old = c.self.inside.entries in
    let new = c.append_from.new.self in
    let one = entry_at c.other.inside.entries.entries c.args.index (rw (← c.other.view_is) at c.requires.there) in
    let is = c.append_from.ensures one.0 one.1 in
    kept_next_ready old new one.0.0 one.0.1 c.len-newest.result is c.len-newest.ensures.len c.self.inside.kept c.self.invariant.users

pub note_newest-requires-clause-room : goal.note_newest-requires-clause-room
note_newest-requires-clause-room c =
    let old = c.self.inside.entries in
    let new = c.append_from.new.self in
    let one = entry_at c.other.inside.entries.entries c.args.index (rw (← c.other.view_is) at c.requires.there) in
    let is = c.append_from.ensures one.0 one.1 in
    omega (arith, rw (← c.self.view_is) at c.requires.room, c.self.invariant.room, size_next old new one.0.0 one.0.1 c.len-newest.result is c.len-newest.ensures.len, c.len-newest.ensures.len)

pub note_newest-requires-clause-links : goal.note_newest-requires-clause-links
note_newest-requires-clause-links c =
    let old = c.self.inside.entries in
    let new = c.append_from.new.self in
    let one = entry_at c.other.inside.entries.entries c.args.index (rw (← c.other.view_is) at c.requires.there) in
    let is = c.append_from.ensures one.0 one.1 in
    omega (arith, rw (← c.self.view_is) at c.requires.room, c.self.invariant.link_room, size_next old new one.0.0 one.0.1 c.len-newest.result is c.len-newest.ensures.len, c.len-newest.ensures.len)

pub invariant_of-self : goal.invariant_of-self
invariant_of-self c =
    let old = c.self.inside.entries in
    let new = c.append_from.new.self in
    let one = entry_at c.other.inside.entries.entries c.args.index (rw (← c.other.view_is) at c.requires.there) in
    let is = c.append_from.ensures one.0 one.1 in
    record {
      labels = c.note_newest.ensures.labels;
      users = c.note_newest.ensures.kept;
      room = omega (arith, c.note_newest.ensures.room, c.self.invariant.room, capacity_next old new one.0.0 one.0.1 c.len-newest.result is c.len-newest.ensures.len);
      link_room = omega (arith, c.note_newest.ensures.links, c.self.invariant.link_room, capacity_next old new one.0.0 one.0.1 c.len-newest.result is c.len-newest.ensures.len);
    }
