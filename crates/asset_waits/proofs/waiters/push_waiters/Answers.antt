use Rattle.std.proofs.Common.{◌∙◌, refl, string_bytes, sym, append-nil}
use Rattle.asset_names.specs.Steps.{applied}
use Rattle.asset_waits.specs.Texts.{waiter_text, waiters_text}
use Rattle.asset_names.proofs.MoreLemmas.{text_more}
use Rattle.asset_waits.proofs.waiters.push_waiters.Goals as goal

pub names-init : goal.names-init
unfolding waiters_text
names-init c = record { same = refl; text = sym (append-nil (string_bytes c.args.text.now)) }

pub names-preserved : goal.names-preserved
unfolding waiters_text
names-preserved c =
    let core = c.args.core.now in
    let one = waiter_text (applied core.history.entries) core.pending in
    let more = rw c.names.invariant.same at c.in_ok-push_waiter.ensures in
    record {
      same = c.push_waiter.ensures.same ∙ c.names.invariant.same;
      text = text_more one c.args.names.now c.names.n-index _ (string_bytes c.args.text.now) (string_bytes c.names.text) _ c.names-test.true c.names.invariant.text more.text;
    }
