use Rattle.std.proofs.Common.{◌≡◌, List, take, reverse, ap, subst, ◌∙◌, arith}
use Rattle.std.proofs.lemmas.List.{length-reverse, reverse-reverse, take_all}
use Rattle.asset_names.specs.Steps.{Entry, applied}
use Rattle.asset_ends.specs.Shows.{Shows}
use Rattle.asset_ends.specs.Standing.{values_of}
use Rattle.asset_lanes.proofs.walking.pass_all.Goals as goal

pub returns : goal.returns
returns c =
    let all = c.args.history.now.entries in
    let whole : reverse (take c.entries.i (reverse all)) ≡ all =
    ap reverse (take_all c.entries.i (reverse all) (omega (arith, c.entries-test.false, c.len-i-end.ensures.len, length-reverse all))) ∙ reverse-reverse all in
    subst (λ (l : List Entry). Shows c.args.history.now.opening (applied l) (values_of c.entries.tables)) whole c.entries.invariant
