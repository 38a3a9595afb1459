use Rattle.std.proofs.Common.{◌≡◌, ◌++◌, ◌∷◌, [], List, ℕ, take, reverse, string_bytes, sym, ap, ◌∙◌, append_assoc, append-nil, arith, inl, inr}
use Rattle.std.proofs.lemmas.List.{length-reverse, reverse-reverse, take_all}
use Rattle.std.proofs.lemmas.Option.{slice_get_cases}
use Rattle.asset_names.specs.Steps.{Entry}
use Rattle.asset_printing.specs.Printed.{step_text}
use Rattle.asset_reports.specs.Reports.{steps_text}
use Rattle.asset_reports.proofs.ReportLemmas.{steps_more}
use Rattle.asset_reports.proofs.history_report.push_steps.Goals as goal

pub entries-init : goal.entries-init
unfolding steps_text
entries-init c = sym (append-nil (string_bytes c.args.text.now))

pub entries-preserved : goal.entries-preserved
entries-preserved c =
    let entries = reverse c.args.history.now.entries in
    let i = c.entries.i in
    elim (slice_get_cases entries i).1 [
      | inl here ↦
          c.in_ok-push_step_at.ensures here.0 here.2
          ∙ ap (λ (l : List ℕ). l ++ (step_text here.0.0 ++ 10 ∷ [])) c.entries.invariant
          ∙ append_assoc (string_bytes c.args.text.now) (steps_text (reverse (take i entries))) (step_text here.0.0 ++ 10 ∷ [])
          ∙ ap (λ (l : List ℕ). string_bytes c.args.text.now ++ l) (sym (steps_more entries i here.0 here.2))
      | inr past ↦ absurd (omega (arith, past.0, c.entries-test.true, c.len-i-end.ensures.len, length-reverse c.args.history.now.entries))
    ]

pub returns : goal.returns
returns c =
    let all = c.args.history.now.entries in
    let whole : reverse (take c.entries.i (reverse all)) ≡ all =
    ap reverse (take_all c.entries.i (reverse all) (omega (arith, c.entries-test.false, c.len-i-end.ensures.len, length-reverse all))) ∙ reverse-reverse all in
    c.entries.invariant ∙ ap (λ (l : List Entry). string_bytes c.args.text.now ++ steps_text l) whole
