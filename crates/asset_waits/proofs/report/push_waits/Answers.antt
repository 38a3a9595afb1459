use Rattle.std.proofs.Common.{◌++◌, ◌∙◌, List, ℕ, ap, append_assoc, string_bytes}
use Rattle.std.proofs.lemmas.Result.{on_ok_weaker}
use Rattle.asset_names.specs.Steps.{applied}
use Rattle.asset_waits.specs.Waiting.{live_names}
use Rattle.asset_waits.specs.Deadlocks.{deadlock_labels}
use Rattle.asset_waits.specs.Texts.{waiters_text, deadlocks_text, report_text}
use Rattle.asset_waits.proofs.report.push_waits.Goals as goal

pub returns-clause-text : goal.returns-clause-text
unfolding report_text
returns-clause-text c =
    let core = c.args.core.now in
    let steps = applied core.history.entries in
    let names = live_names steps in
    let cycles = deadlocks_text names (deadlock_labels steps core.pending) in
    let first = rw (c.as_slice.ensures.keys, c.in_ok-names.ensures) at c.in_ok-push_waiters.ensures.text in
    let more = rw (c.as_slice-2.ensures.keys, c.deref.ensures.value, c.in_ok-arrows.ensures.arrows, c.in_ok-names.ensures, c.in_ok-push_waiters.ensures.same) at c.push_deadlocks.ensures in
    on_ok_weaker c.push_deadlocks.result
    (λ pushed. pushed ∙ ap (λ (l : List ℕ). l ++ cycles) first ∙ append_assoc (string_bytes c.args.text.now) (waiters_text steps core.pending names) cycles) more
