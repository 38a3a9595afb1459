use Rattle.std.proofs.Common.{◌++◌, List, ℕ, get_or, take, string_bytes, sym, ap, ◌∙◌, append_assoc, append-nil}
use Rattle.std.specs.Prelude.{ℤ, pos}
use Rattle.std.proofs.lemmas.List.{take_more}
use Rattle.asset_names.specs.declared.names.Ob.{Ob}
use Rattle.asset_reports.specs.Reports.{opening_line, opening_text}
use Rattle.asset_reports.proofs.ReportLemmas.{opening_more}
use Rattle.asset_reports.proofs.history_report.push_opening.Goals as goal

pub objects-init : goal.objects-init
unfolding opening_text
objects-init c = sym (append-nil (string_bytes c.args.text.now))

pub objects-preserved : goal.objects-preserved
objects-preserved c =
    let opening = c.args.opening.now in
    let index = c.objects.given-index in
    let given : Ob × ℤ = get_or opening index (record { 0 = 0 }, pos 0) in
    let before = take index opening in
    let more = take_more opening index (record { 0 = 0 }, pos 0) c.objects-test.true in
    rw more
    (c.in_ok-push_object_line.ensures
    ∙ ap (λ (l : List ℕ). l ++ opening_line given) c.objects.invariant
    ∙ append_assoc (string_bytes c.args.text.now) (opening_text before) (opening_line given)
    ∙ ap (λ (l : List ℕ). string_bytes c.args.text.now ++ l) (sym (opening_more before given)))
