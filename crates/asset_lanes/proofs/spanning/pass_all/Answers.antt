use Rattle.std.proofs.Common.{◌≡◌, List, take, reverse, ap, ◌∙◌, arith}
use Rattle.std.proofs.lemmas.List.{length-reverse, reverse-reverse, take_all}
use Rattle.asset_names.specs.Steps.{Entry}
use Rattle.asset_lanes.specs.Lanes.{span_of}
use Rattle.asset_lanes.proofs.spanning.pass_all.Goals as goal

pub returns : goal.returns
returns c =
    let all = c.args.history.now.entries in
    let whole : reverse (take c.entries.i (reverse all)) ≡ all =
    ap reverse (take_all c.entries.i (reverse all) (omega (arith, c.entries-test.false, c.len-i-end.ensures.len, length-reverse all))) ∙ reverse-reverse all in
    c.entries.invariant.span ∙ ap (λ (l : List Entry). span_of l c.args.t.0) whole
