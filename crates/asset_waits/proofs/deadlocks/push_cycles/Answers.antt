use Rattle.std.proofs.Common.{◌++◌, ◌∙◌, ℕ, List, ap, flat_map, string_bytes, sym, append-nil}
use Rattle.std.proofs.lemmas.List.{take_all}
use Rattle.asset_waits.specs.Texts.{label_line, deadlocks_text}
use Rattle.asset_names.proofs.MoreLemmas.{text_more}
use Rattle.asset_waits.proofs.deadlocks.push_cycles.Goals as goal

pub labels-init : goal.labels-init
labels-init c = sym (append-nil (string_bytes c.args.text.now))

pub labels-preserved : goal.labels-preserved
labels-preserved c =
    text_more (label_line c.args.names.now c.args.cycles.now) c.labels-label-items.result.now c.labels.label-index _ (string_bytes c.args.text.now) (string_bytes c.labels.text) _ c.labels-test.true c.labels.invariant c.in_ok-push_label.ensures

pub returns : goal.returns
unfolding deadlocks_text
returns c =
    let items = c.labels-label-items.result.now in
    c.labels.invariant
    ∙ ap (λ (l : List ℕ). string_bytes c.args.text.now ++ flat_map (label_line c.args.names.now c.args.cycles.now) l) (take_all c.labels.label-index items c.labels-test.false ∙ c.labels-label-items.ensures)
