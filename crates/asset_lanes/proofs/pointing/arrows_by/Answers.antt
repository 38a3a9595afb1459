use Rattle.std.proofs.Common.{◌≡◌, ◌++◌, ◌<◌, List, Option, None, get_or, length, take, reverse, sym, ap, ◌∙◌, arith}
use Rattle.std.proofs.lemmas.List.{length-reverse, reverse-reverse, take_all}
use Rattle.asset_names.specs.Steps.{Entry}
use Rattle.asset_sources.specs.declared.sourced.Source.{Source}
use Rattle.asset_sources.specs.Sourced.{source_at}
use Rattle.asset_sources.proofs.WalkLemmas.{entry_there}
use Rattle.asset_lanes.specs.declared.pointing.Arrow.{Arrow}
use Rattle.asset_lanes.specs.Arrows.{arrow_of, arrow_list, arrows_among, arrows}
use Rattle.asset_lanes.proofs.ListLemmas.{arrows_more, source_there}
use Rattle.asset_lanes.proofs.pointing.arrows_by.Goals as goal

pub entries-init : goal.entries-init
unfolding arrows_among
entries-init c = c.new-found.ensures.items

pub entries-preserved : goal.entries-preserved
entries-preserved c =
    let all = c.args.history.now.entries in
    let groups = c.args.groups.now in
    let rows = c.args.rows.now in
    let i = c.entries.i in
    let below : i < length all = omega (arith, c.entries-test.true, c.requires.long) in
    let there = entry_there all i below in
    c.in_ok-push_arrow_at.ensures there.0 there.1
    ∙ ap (λ (l : List Arrow). l ++ arrow_list (arrow_of groups rows all i there.0.0 there.0.1 (get_or c.args.sources.now i None))) c.entries.invariant
    ∙ ap (λ (source : Option Source). arrows_among groups rows all (reverse (take i (reverse all))) ++ arrow_list (arrow_of groups rows all i there.0.0 there.0.1 source))
    (source_there c.args.sources.now i None (source_at all i) (c.requires.each i below))
    ∙ sym (arrows_more groups rows all i there.0 there.1)

pub returns : goal.returns
unfolding arrows
returns c =
    let all = c.args.history.now.entries in
    let whole : reverse (take c.entries.i (reverse all)) ≡ all =
    ap reverse (take_all c.entries.i (reverse all) (omega (arith, c.entries-test.false, c.requires.long, length-reverse all))) ∙ reverse-reverse all in
    c.entries.invariant ∙ ap (λ (l : List Entry). arrows_among c.args.groups.now c.args.rows.now all l) whole
