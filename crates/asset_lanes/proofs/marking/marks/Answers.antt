use Rattle.std.proofs.Common.{◌≡◌, ◌++◌, ◌<◌, List, length, take, reverse, sym, ap, ◌∙◌, arith}
use Rattle.std.proofs.lemmas.List.{length-reverse, reverse-reverse, take_all}
use Rattle.asset_names.specs.Steps.{Entry}
use Rattle.asset_sources.proofs.WalkLemmas.{entry_there}
use Rattle.asset_lanes.specs.declared.marking.Mark.{Mark}
use Rattle.asset_lanes.specs.Marks.{mark_of, mark_list, marks}
use Rattle.asset_lanes.proofs.ListLemmas.{marks_more}
use Rattle.asset_lanes.proofs.marking.marks.Goals as goal

pub entries-init : goal.entries-init
unfolding marks
entries-init c = c.new-found.ensures.items

pub entries-preserved : goal.entries-preserved
entries-preserved c =
    let all = c.args.history.now.entries in
    let i = c.entries.i in
    let below : i < length all = omega (arith, c.entries-test.true, c.len-i-end.ensures.len) in
    let there = entry_there all i below in
    c.in_ok-push_mark_at.ensures there.0 there.1
    ∙ ap (λ (l : List Mark). l ++ mark_list (mark_of c.args.groups.now c.args.rows.now i there.0.0 there.0.1)) c.entries.invariant
    ∙ sym (marks_more c.args.groups.now c.args.rows.now all i there.0 there.1)

pub returns : goal.returns
returns c =
    let all = c.args.history.now.entries in
    let whole : reverse (take c.entries.i (reverse all)) ≡ all =
    ap reverse (take_all c.entries.i (reverse all) (omega (arith, c.entries-test.false, c.len-i-end.ensures.len, length-reverse all))) ∙ reverse-reverse all in
    c.entries.invariant ∙ ap (λ (l : List Entry). marks c.args.groups.now c.args.rows.now l) whole
