use Rattle.std.proofs.Common.{◌<◌, length, reverse, sym, ◌∙◌, ap, arith}
use Rattle.std.proofs.lemmas.List.{length-reverse}
use Rattle.asset_names.specs.Arrows.{with_name}
use Rattle.asset_serial.specs.Answered.{answered_names}
use Rattle.asset_serial.proofs.AnsweredLemmas.{answer_seen, no_answer_seen}
use Rattle.asset_serial.proofs.committing.add_committed.Goals as goal
use Rattle.asset_serial.proofs.committing.add_committed.Goals.{in-Some+in_ok-add_name, in_default}

pub entries-init : goal.entries-init
unfolding answered_names
entries-init c = c.requires

pub entries-preserved : goal.entries-preserved
entries-preserved c =
    let entries = reverse c.args.history.now.entries in
    let i = c.entries.i in
    elim c.match-committed_at.branch [
      | in-Some+in_ok-add_name w ↦
          rw w.names-is (w.in_ok-add_name.ensures ∙ ap (λ l. with_name l w.in-Some.t.0) c.entries.invariant ∙ sym (answer_seen entries i w.in-Some.t w.in-Some.ensures))
      | in_default w ↦
          let below : i < length entries = omega (arith, c.entries-test.true, c.len-i-end.ensures.len, length-reverse c.args.history.now.entries) in
          rw w.names-is (c.entries.invariant ∙ sym (no_answer_seen entries i below w.in_default.ensures))
    ]
