use Rattle.std.proofs.Common.{◌≡◌, ◌++◌, string_bytes, append-nil, sym, ap, ◌∙◌, w64, to_z, of_z, arith}
use Rattle.std.proofs.lemmas.Int.{to_z-of_z}
use Rattle.asset_sources.specs.Sourced.{read_with}
use Rattle.asset_reports.specs.Sources.{read_line, source_text}
use Rattle.asset_reports.proofs.sources_report.push_line.Goals as goal

pub returns-in-Ok-clause-text : goal.returns-in-Ok-clause-text
unfolding read_line read_with source_text
returns-in-Ok-clause-text c = λ entry at.
    let back : to_z w64 (of_z w64 c.in-Some.v) ≡ c.in-Some.v = grind (arith, to_z-of_z) in
    let told = ap (read_with c.pass.new.step) (sym c.in-Some.is) ∙ (rw c.requires.next at c.in_ok-v.ensures.read) entry at in
    (rw back at c.in-Ok.ensures) ∙ ap (λ read. string_bytes c.args.text.now ++ read_line c.args.index read) told

pub returns-in-None-clause-text : goal.returns-in-None-clause-text
unfolding read_line read_with source_text
returns-in-None-clause-text c = λ entry at.
    let told = ap (read_with c.pass.new.step) (sym c.in-None.is) ∙ (rw c.requires.next at c.in_ok-v.ensures.read) entry at in
    sym (append-nil (string_bytes c.args.text.now)) ∙ ap (λ read. string_bytes c.args.text.now ++ read_line c.args.index read) told
