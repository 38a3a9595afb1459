use Rattle.std.proofs.Common.{◌≡◌, ◌∙◌, List, ℕ, take, reverse, ap, arith, inl, inr}
use Rattle.std.proofs.lemmas.List.{length-reverse, reverse-reverse, take_all}
use Rattle.std.proofs.lemmas.Option.{slice_get_cases}
use Rattle.asset_names.specs.Steps.{Entry, applied, initiated}
use Rattle.asset_waits.specs.Live.{initiated_in, with_live, live_among}
use Rattle.asset_waits.specs.Waiting.{live_names}
use Rattle.asset_waits.proofs.LiveLemmas.{live_next}
use Rattle.asset_waits.proofs.live.add_all.Goals as goal

pub entries-init : goal.entries-init
unfolding live_among applied initiated
entries-init c = c.requires

pub entries-preserved : goal.entries-preserved
entries-preserved c =
    let history = c.args.core.now.history in
    let steps = applied history.entries in
    let entries = reverse history.entries in
    let i = c.entries.i in
    let is = rw (c.history.ensures.history) at c.len-i-end.ensures in
    elim (slice_get_cases entries i).1 [
      | inl here ↦
          c.in_ok-add_entry.ensures here.0 here.2
          ∙ ap (λ (keys : List ℕ). with_live steps keys (initiated_in here.0)) c.entries.invariant
          ∙ live_next steps history.opening history.entries i here.0 here.2 is.legal
      | inr past ↦ absurd (omega (arith, past.0, c.entries-test.true, is.len, length-reverse history.entries))
    ]

pub returns : goal.returns
unfolding live_among live_names
returns c =
    let history = c.args.core.now.history in
    let is = rw (c.history.ensures.history) at c.len-i-end.ensures in
    let whole : reverse (take c.entries.i (reverse history.entries)) ≡ history.entries =
    ap reverse (take_all c.entries.i (reverse history.entries) (omega (arith, c.entries-test.false, is.len, length-reverse history.entries))) ∙ reverse-reverse history.entries in
    c.entries.invariant ∙ ap (λ (l : List Entry). live_among (applied history.entries) (applied l)) whole
