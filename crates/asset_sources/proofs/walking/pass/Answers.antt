use Rattle.std.proofs.Common.{◌≡◌, Some, reverse, sym, ap, ◌∙◌}
use Rattle.std.specs.Prelude.{option_map, slice_get}
use Rattle.std.proofs.lemmas.Option.{none-some, same_Some}
use Rattle.asset_names.specs.declared.replies.Reply.{Reply}
use Rattle.asset_names.specs.Steps.{Entry}
use Rattle.asset_sources.specs.Sourced.{read_of, source_at}
use Rattle.asset_sources.specs.Walked.{first_entries}
use Rattle.asset_sources.proofs.WalkLemmas.{entry_there, entry_ready, entry_passed, legal_here, few_older, source_found, told_writing}
use Rattle.asset_sources.proofs.walking.pass.Goals as goal

pub apply_renumbered-requires-clause-ready : goal.apply_renumbered-requires-clause-ready
apply_renumbered-requires-clause-ready c =
    let found : Entry = (c.entry_into.new.step, c.in-Some.reply) in
    let here : slice_get (reverse c.args.history.now.entries) c.args.index ≡ Some found =
    sym c.entry_into.ensures.entry ∙ ap (option_map (λ (reply : Reply). (c.entry_into.new.step, reply))) c.in-Some.is in
    entry_ready c.args.history.now c.args.index c.args.tables.now found c.requires.small here c.entry_into.ensures.legal c.requires.stand

pub returns-in_ok-source-in-Some-clause-stand : goal.returns-in_ok-source-in-Some-clause-stand
returns-in_ok-source-in-Some-clause-stand c =
    let found : Entry = (c.entry_into.new.step, c.in-Some.reply) in
    let here : slice_get (reverse c.args.history.now.entries) c.args.index ≡ Some found =
    sym c.entry_into.ensures.entry ∙ ap (option_map (λ (reply : Reply). (c.entry_into.new.step, reply))) c.in-Some.is in
    entry_passed c.args.history.now c.args.index c.args.tables.now c.apply_renumbered.new.tables found c.requires.small here c.entry_into.ensures.legal c.requires.stand c.in_ok-source-in-Some.ensures.stand

pub returns-in_ok-source-in-Some-clause-read : goal.returns-in_ok-source-in-Some-clause-read
returns-in_ok-source-in-Some-clause-read c = λ entry at.
    let history = c.args.history.now in
    let older = first_entries history c.args.index in
    let step = c.entry_into.new.step in
    let reply = c.in-Some.reply in
    let found : Entry = (step, reply) in
    let here : slice_get (reverse history.entries) c.args.index ≡ Some found =
    sym c.entry_into.ensures.entry ∙ ap (option_map (λ (reply : Reply). (c.entry_into.new.step, reply))) c.in-Some.is in
    let same : found ≡ entry = same_Some found entry (sym here ∙ at) in
    let source = c.in_ok-source-in-Some.ensures.source history.opening older (few_older history.entries c.args.index found c.requires.small here) c.requires.stand (legal_here history.opening history.entries c.args.index found here c.entry_into.ensures.legal) in
    c.with_source.ensures c.apply_renumbered.new.step
    ∙ (λ i. read_of (c.apply_renumbered.ensures.step i) reply (source i))
    ∙ told_writing c.args.index older step reply
    ∙ ap (read_of step reply) (sym (source_found history.entries c.args.index found here))
    ∙ ap (λ (e : Entry). read_of e.0 e.1 (source_at history.entries c.args.index)) same

pub returns-in-None-clause-stand : goal.returns-in-None-clause-stand
returns-in-None-clause-stand c =
    let there = entry_there c.args.history.now.entries c.args.index c.requires.there in
    absurd (none-some there.0 (ap (option_map (λ (reply : Reply). (c.entry_into.new.step, reply))) (sym c.in-None.is) ∙ c.entry_into.ensures.entry ∙ there.1))

pub returns-in-None-clause-read : goal.returns-in-None-clause-read
returns-in-None-clause-read c =
    let there = entry_there c.args.history.now.entries c.args.index c.requires.there in
    absurd (none-some there.0 (ap (option_map (λ (reply : Reply). (c.entry_into.new.step, reply))) (sym c.in-None.is) ∙ c.entry_into.ensures.entry ∙ there.1))
