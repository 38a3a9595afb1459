use Rattle.std.proofs.Common.{◌++◌, ◌∙◌, List, ℕ, ap, append_assoc, string_bytes}
use Rattle.std.proofs.lemmas.Result.{on_ok_weaker}
use Rattle.asset_names.specs.Steps.{applied}
use Rattle.asset_names.specs.Endings.{status}
use Rattle.asset_waits.specs.Texts.{status_line, waits_text, waiter_text}
use Rattle.asset_waits.proofs.waiters.push_waiter.Goals as goal

pub returns-in-Ok-clause-text : goal.returns-in-Ok-clause-text
unfolding waiter_text
returns-in-Ok-clause-text c =
    let core = c.args.core.now in
    let steps = applied core.history.entries in
    let t = c.args.t.0 in
    let is = status steps t in
    let first = rw (c.status-status.ensures) at c.in-Ok.ensures in
    let more = rw (c.status-status.ensures) at c.push_waits_of.ensures.text in
    on_ok_weaker c.push_waits_of.result
    (λ pushed. pushed ∙ ap (λ (l : List ℕ). l ++ waits_text is steps core.pending t) first ∙ append_assoc (string_bytes c.args.text.now) (status_line is t) (waits_text is steps core.pending t)) more
