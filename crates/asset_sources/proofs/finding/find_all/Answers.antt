use Rattle.std.proofs.Common.{◌≡◌, ◌++◌, ◌∷◌, [], List, Option, length, vec_len, reverse, sym, ap, ◌∙◌, arith}
use Rattle.std.proofs.lemmas.Grind.{common_steps}
use Rattle.asset_sources.specs.declared.sourced.Source.{Source}
use Rattle.asset_sources.specs.Sourced.{sources_of}
use Rattle.asset_sources.specs.Walked.{first_entries}
use Rattle.asset_sources.proofs.WalkLemmas.{entry_there, older_length, sources_next, sources_long}
use Rattle.asset_sources.proofs.finding.find_all.Goals as goal

pub entries-init : goal.entries-init
unfolding sources_of
entries-init c = record { stand = c.requires.stand; found = c.in-Ok.ensures.items; room = grind (arith, common_steps) }

pub entries-preserved : goal.entries-preserved
entries-preserved c =
    let all = c.args.history.now.entries in
    let there = entry_there all c.entries.i (omega (arith, c.entries-test.true, c.len-i-end.ensures.len)) in
    let before = sources_of (first_entries c.args.history.now c.entries.i) in
    record {
      stand = c.in_ok-pass_for_source.ensures.stand;
      found =
          c.push_reserved.ensures.items
          ∙ ap (λ (l : List (Option Source)). l ++ c.in_ok-pass_for_source.field-0 ∷ []) c.entries.invariant.found
          ∙ ap (λ (one : Option Source). before ++ one ∷ []) (c.in_ok-pass_for_source.ensures.source there.0 there.1)
          ∙ sym (sources_next (reverse all) c.entries.i there.0 there.1);
      room = grind (arith, common_steps);
    }

pub push_reserved-requires : goal.push_reserved-requires
push_reserved-requires c =
    let all = c.args.history.now.entries in
    let found = c.entries.found in
    let there = entry_there all c.entries.i (omega (arith, c.entries-test.true, c.len-i-end.ensures.len)) in
    let long : vec_len found ≡ length found.items = found.ok.0 in
    let far : length (first_entries c.args.history.now c.entries.i) ≡ c.entries.i = older_length all c.entries.i there.0 there.1 in
    omega (
      arith,
      c.entries-test.true,
      c.len-i-end.ensures.len,
      c.entries.invariant.room,
      long,
      far,
      ap (λ (l : List (Option Source)). length l) c.entries.invariant.found,
      sources_long (first_entries c.args.history.now c.entries.i),
    )

pub returns : goal.returns
returns c = grind (arith, common_steps)
