use Rattle.std.proofs.Common.{arith}
use Rattle.asset_history.proofs.HistoryLemmas.{capacity_next, size_next, legal_next, labels_next_ready, kept_next_ready}
use Rattle.asset_history.proofs.history.History.append_lent.Goals as goal

pub note_newest-requires-clause-newest : goal.note_newest-requires-clause-newest
note_newest-requires-clause-newest c = size_next c.self.inside.entries c.append_lent.new.self c.args.step.now c.args.reply c.len-newest.result c.append_lent.ensures c.len-newest.ensures.len

pub note_newest-requires-clause-legal : goal.note_newest-requires-clause-legal
note_newest-requires-clause-legal c =
    legal_next c.self.inside.entries c.append_lent.new.self c.args.step.now c.args.reply c.len-newest.result c.append_lent.ensures c.len-newest.ensures.len c.len-newest.ensures.legal (rw (← c.self.view_is) at c.requires.answer)

pub note_newest-requires-clause-labels : goal.note_newest-requires-clause-labels
note_newest-requires-clause-labels c = labels_next_ready c.self.inside.entries c.append_lent.new.self c.args.step.now c.args.reply c.len-newest.result c.append_lent.ensures c.len-newest.ensures.len c.self.inside.kept.groups c.self.invariant.labels

pub note_newest-requires-clause-kept : goal.note_newest-requires-clause-kept
note_newest-requires-clause-kept c =
    kept_next_ready c.self.inside.entries c.append_lent.new.self c.args.step.now c.args.reply c.len-newest.result c.append_lent.ensures c.len-newest.ensures.len c.self.inside.kept c.self.invariant.users

pub note_newest-requires-clause-room : goal.note_newest-requires-clause-room
note_newest-requires-clause-room c =
    omega (arith, rw (← c.self.view_is) at c.requires.room, c.self.invariant.room, size_next c.self.inside.entries c.append_lent.new.self c.args.step.now c.args.reply c.len-newest.result c.append_lent.ensures c.len-newest.ensures.len, c.len-newest.ensures.len)

pub note_newest-requires-clause-links : goal.note_newest-requires-clause-links
note_newest-requires-clause-links c =
    omega (arith, rw (← c.self.view_is) at c.requires.room, c.self.invariant.link_room, size_next c.self.inside.entries c.append_lent.new.self c.args.step.now c.args.reply c.len-newest.result c.append_lent.ensures c.len-newest.ensures.len, c.len-newest.ensures.len)

pub invariant_of-self : goal.invariant_of-self
invariant_of-self c = record {
  labels = c.note_newest.ensures.labels;
  users = c.note_newest.ensures.kept;
  room = omega (arith, c.note_newest.ensures.room, c.self.invariant.room, capacity_next c.self.inside.entries c.append_lent.new.self c.args.step.now c.args.reply c.len-newest.result c.append_lent.ensures c.len-newest.ensures.len);
  link_room = omega (arith, c.note_newest.ensures.links, c.self.invariant.link_room, capacity_next c.self.inside.entries c.append_lent.new.self c.args.step.now c.args.reply c.len-newest.result c.append_lent.ensures c.len-newest.ensures.len);
}
