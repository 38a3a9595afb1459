use Rattle.std.proofs.Common.{length, sym, ap, arith}
use Rattle.std.proofs.lemmas.Bool.{false≢true}
use Rattle.asset_history.proofs.EntryLemmas.{split_newest}
use Rattle.asset_history.proofs.labelling.KeptGroups.open_by_newest.Goals as goal

pub returns-then-is_some-clause-kept : goal.returns-then-is_some-clause-kept
returns-then-is_some-clause-kept c =
    let split = split_newest c.args.entries.now.entries c.args.newest c.requires.newest in
    record {
      closed = λ closed. absurd (false≢true (sym closed));
      room = λ closed. absurd (false≢true (sym closed));
      empty = λ closed. absurd (false≢true (sym closed));
      unlinked = λ closed. absurd (false≢true (sym closed));
      few = omega (arith, c.note_first.ensures.few, c.requires.newest, ap length split.2);
      there = λ opened. c.note_first.ensures.there;
      say = λ opened. c.note_first.ensures.said;
    }
