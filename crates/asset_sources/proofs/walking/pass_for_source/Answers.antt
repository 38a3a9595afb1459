use Rattle.std.proofs.Common.{ℤ, sym, ap, ◌∙◌}
use Rattle.std.specs.Prelude.{option_map}
use Rattle.asset_sources.specs.declared.sourced.Source.{Source}
use Rattle.asset_sources.specs.Sourced.{read_of}
use Rattle.asset_sources.specs.Walked.{first_entries}
use Rattle.asset_sources.proofs.WalkLemmas.{source_found, source_told}
use Rattle.asset_sources.proofs.walking.pass_for_source.Goals as goal

pub returns-in-Some-clause-source : goal.returns-in-Some-clause-source
returns-in-Some-clause-source c = λ entry at.
    let history = c.args.history.now in
    let told = c.in_ok-found.ensures.read entry at ∙ ap (read_of entry.0 entry.1) (source_found history.entries c.args.index entry at) in
    ap (option_map (λ (one : ℤ × Source). one.1)) (sym c.in-Some.is) ∙ source_told (first_entries history c.args.index) entry.0 c.pass.new.step entry.1 c.in_ok-found.field-0 told

pub returns-in-None-clause-source : goal.returns-in-None-clause-source
returns-in-None-clause-source c = λ entry at.
    let history = c.args.history.now in
    let told = c.in_ok-found.ensures.read entry at ∙ ap (read_of entry.0 entry.1) (source_found history.entries c.args.index entry at) in
    ap (option_map (λ (one : ℤ × Source). one.1)) (sym c.in-None.is) ∙ source_told (first_entries history c.args.index) entry.0 c.pass.new.step entry.1 c.in_ok-found.field-0 told
