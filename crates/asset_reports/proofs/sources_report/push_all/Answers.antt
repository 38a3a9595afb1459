use Rattle.std.proofs.Common.{◌≡◌, ◌+◌, ◌++◌, ◌<◌, List, ℕ, length, take, reverse, string_bytes, refl, sym, ap, ◌∙◌, append_assoc, append-nil, arith, inl, inr}
use Rattle.std.proofs.lemmas.List.{length-reverse, reverse-reverse, take_all}
use Rattle.std.proofs.lemmas.Option.{slice_get_cases}
use Rattle.asset_names.specs.Steps.{Entry}
use Rattle.asset_sources.specs.Sourced.{source_at}
use Rattle.asset_reports.specs.Sources.{source_text, sources_text}
use Rattle.asset_reports.proofs.ReportLemmas.{sources_more}
use Rattle.asset_reports.proofs.sources_report.push_all.Goals as goal

pub entries-init : goal.entries-init
unfolding sources_text
entries-init c = record { printed = sym (append-nil (string_bytes c.args.text.now)); history = refl; passed = c.requires.first }

pub entries-preserved : goal.entries-preserved
entries-preserved c =
    let all = c.args.walk.now.history.entries in
    let entries = reverse all in
    let i = c.entries.i in
    let below : i < length all = omega (arith, c.entries-test.true, c.len-i-end.ensures) in
    let pushed = rw c.entries.invariant.history at c.in_ok-push_line.ensures.text in
    record {
      printed = elim (slice_get_cases entries i).1 [
        | inl here ↦
            pushed here.0 here.2
            ∙ ap (λ (l : List ℕ). l ++ source_text i here.0.0 here.0.1 (source_at all i)) c.entries.invariant.printed
            ∙ append_assoc (string_bytes c.args.text.now) (sources_text (reverse (take i entries))) (source_text i here.0.0 here.0.1 (source_at all i))
            ∙ ap (λ (l : List ℕ). string_bytes c.args.text.now ++ l) (sym (sources_more all i here.0 here.2))
        | inr past ↦ absurd (omega (arith, past.0, below, length-reverse all))
      ];
      history = c.in_ok-push_line.ensures.history ∙ c.entries.invariant.history;
      passed = c.in_ok-push_line.ensures.passed ∙ ap (λ n. n + 1) c.entries.invariant.passed;
    }

pub returns : goal.returns
returns c =
    let all = c.args.walk.now.history.entries in
    let whole : reverse (take c.entries.i (reverse all)) ≡ all =
    ap reverse (take_all c.entries.i (reverse all) (omega (arith, c.entries-test.false, c.len-i-end.ensures, length-reverse all))) ∙ reverse-reverse all in
    c.entries.invariant.printed ∙ ap (λ (l : List Entry). string_bytes c.args.text.now ++ sources_text l) whole
