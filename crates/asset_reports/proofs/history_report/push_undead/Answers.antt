use Rattle.std.proofs.Common.{◌≡◌, ◌++◌, ◌∷◌, [], List, ℕ, cond, not, take, reverse, string_bytes, sym, ap, ◌∙◌, append_assoc, append-nil, arith, inl, inr}
use Rattle.std.proofs.lemmas.List.{length-reverse, reverse-reverse, take_all}
use Rattle.std.proofs.lemmas.Option.{slice_get_cases}
use Rattle.asset_names.specs.Steps.{Entry}
use Rattle.asset_names.specs.Groups.{actor, kept}
use Rattle.asset_deletion.specs.Grouping.{dead_in}
use Rattle.asset_deletion.proofs.WithoutLemmas.{undead_left}
use Rattle.asset_printing.specs.Printed.{step_text}
use Rattle.asset_reports.specs.Reports.{steps_text}
use Rattle.asset_reports.proofs.ReportLemmas.{steps_kept}
use Rattle.asset_reports.proofs.history_report.push_undead.Goals as goal

pub entries-init : goal.entries-init
unfolding steps_text kept
entries-init c = sym (append-nil (string_bytes c.args.text.now))

pub entries-preserved : goal.entries-preserved
entries-preserved c =
    let entries = reverse c.args.history.now.entries in
    let i = c.entries.i in
    let out = dead_in c.args.groups.now in
    let older : List Entry = kept (λ n. not (out n)) (reverse (take i entries)) in
    elim (slice_get_cases entries i).1 [
      | inl here ↦
          let line : List ℕ = cond (out (actor here.0.0).0) [] (step_text here.0.0 ++ 10 ∷ []) in
          c.in_ok-push_undead_at.ensures here.0 here.2
          ∙ ap (λ (l : List ℕ). l ++ line) c.entries.invariant
          ∙ append_assoc (string_bytes c.args.text.now) (steps_text older) line
          ∙ ap (λ (l : List ℕ). string_bytes c.args.text.now ++ l) (sym (steps_kept out entries i here.0 here.2))
      | inr past ↦ absurd (omega (arith, past.0, c.entries-test.true, c.len-i-end.ensures.len, length-reverse c.args.history.now.entries))
    ]

pub returns : goal.returns
returns c =
    let all = c.args.history.now.entries in
    let whole : reverse (take c.entries.i (reverse all)) ≡ all =
    ap reverse (take_all c.entries.i (reverse all) (omega (arith, c.entries-test.false, c.len-i-end.ensures.len, length-reverse all))) ∙ reverse-reverse all in
    c.entries.invariant
    ∙ ap (λ (l : List Entry). string_bytes c.args.text.now ++ steps_text (kept (λ n. not (dead_in c.args.groups.now n)) l)) whole
    ∙ ap (λ (l : List Entry). string_bytes c.args.text.now ++ steps_text l) (rw c.requires (undead_left all))
