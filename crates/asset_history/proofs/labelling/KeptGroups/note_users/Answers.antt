use Rattle.std.proofs.Common.{length, sym, ap, ◌∙◌, arith}
use Rattle.std.proofs.lemmas.Bool.{false≢true}
use Rattle.asset_history.proofs.EntryLemmas.{split_newest}
use Rattle.asset_history.proofs.HistoryLemmas.{closed_next}
use Rattle.asset_history.proofs.labelling.KeptGroups.note_users.Goals as goal

pub returns-else-self-clause-kept : goal.returns-else-self-clause-kept
returns-else-self-clause-kept c =
    let all = c.args.entries.now.entries in
    let was = c.open_by_newest.ensures.kept in
    let split = split_newest all c.args.newest c.requires.newest in
    record {
      closed = λ closed. closed_next all c.args.newest c.requires.newest (c.open_by_newest.ensures.closed closed) (was.closed closed);
      room = was.room;
      empty = was.empty;
      unlinked = was.unlinked;
      few = omega (arith, was.few, c.requires.newest, ap length split.2);
      there = was.there;
      say = λ opened. absurd (false≢true (sym c.if-self.false ∙ opened));
    }
