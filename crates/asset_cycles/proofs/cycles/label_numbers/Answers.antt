use Rattle.std.proofs.Common.{◌∙◌, ap, length, map, arith}
use Rattle.std.specs.Prelude.{unwrap_or}
use Rattle.std.proofs.lemmas.List.{take_all}
use Rattle.asset_cycles.proofs.MemberLemmas.{all_numbers}
use Rattle.asset_cycles.proofs.cycles.label_numbers.Goals as goal

pub returns : goal.returns
returns c =
    let labels = c.args.labels.now in
    c.nodes.invariant ∙ ap (map (λ label. unwrap_or label (length labels))) (take_all c.nodes.label-index labels (omega (arith, c.nodes-test.false))) ∙ all_numbers labels
