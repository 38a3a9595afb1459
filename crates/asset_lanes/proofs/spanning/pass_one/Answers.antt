use Rattle.std.proofs.Common.{◌+◌, sym, ap, ◌∙◌}
use Rattle.asset_names.specs.declared.statuses.Status.{Status}
use Rattle.asset_names.specs.Steps.{applied}
use Rattle.asset_sources.proofs.WalkLemmas.{entry_there}
use Rattle.asset_lanes.specs.declared.spanning.Span.{Span}
use Rattle.asset_sources.specs.Walked.{first_entries}
use Rattle.asset_lanes.specs.Lanes.{spanned, span_of}
use Rattle.asset_lanes.proofs.WalkLemmas.{span_next}
use Rattle.asset_lanes.proofs.spanning.pass_one.Goals as goal

pub returns-clause-span : goal.returns-clause-span
returns-clause-span c =
    let history = c.args.history.now in
    let i = c.args.index in
    let there = entry_there history.entries i c.requires.there in
    c.spanned.ensures
    ∙ ap (λ (span : Span). spanned span i c.status.result) c.requires.span
    ∙ ap (λ (status : Status). spanned (span_of (first_entries history i) c.args.t.0) i status) (c.status.ensures.shown history.opening (applied (first_entries history (i + 1))) c.in_ok-pass.ensures)
    ∙ sym (span_next history i c.args.t.0 there.0 there.1)
