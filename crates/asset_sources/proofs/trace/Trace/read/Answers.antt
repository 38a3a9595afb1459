use Rattle.std.proofs.Common.{◌≡◌, ◌<◌, Some, List, Option, length, vec_len, reverse, sym, ap, ◌∙◌, w64, to_z, of_z, arith}
use Rattle.std.specs.Prelude.{slice_get}
use Rattle.std.proofs.lemmas.Int.{to_z-of_z}
use Rattle.std.proofs.lemmas.List.{length-reverse}
use Rattle.std.proofs.lemmas.Option.{slice_get_within, slice_get-get_or}
use Rattle.asset_names.specs.Steps.{Entry}
use Rattle.asset_sources.specs.declared.sourced.Source.{Source}
use Rattle.asset_sources.specs.Sourced.{read_with}
use Rattle.asset_sources.proofs.WalkLemmas.{sources_long}
use Rattle.asset_sources.proofs.ReadLemmas.{told_of, alone_read}
use Rattle.asset_sources.proofs.trace.Trace.read.Goals as goal

pub index-requires : goal.index-requires
index-requires c =
    let inside = c.self.inside in
    let entries = inside.history.entries in
    let found : Entry = (c.in_ok-step.step, c.in_ok-step.reply) in
    let here : slice_get (reverse entries) c.args.index ≡ Some found = sym c.entry.ensures.entry ∙ c.in_ok-step.was in
    let within = slice_get_within (reverse entries) c.args.index found here in
    let long : vec_len inside.sources ≡ length inside.sources.items = inside.sources.ok.0 in
    omega (arith, within, long, ap (λ (l : List (Option Source)). length l) c.self.invariant, sources_long entries, length-reverse entries)

pub returns-in_err-v-clause-read : goal.returns-in_err-v-clause-read
unfolding read_with
returns-in_err-v-clause-read c = rw (← c.self.view_is) (λ entry at.
    let inside = c.self.inside in
    let entries = inside.history.entries in
    let kept = inside.sources.items in
    let one = c.index.result.now in
    let step = c.in_ok-step.step in
    let found : Entry = (step, c.in_ok-step.reply) in
    let here : slice_get (reverse entries) c.args.index ≡ Some found = sym c.entry.ensures.entry ∙ c.in_ok-step.was in
    let within = slice_get_within (reverse entries) c.args.index found here in
    let below : c.args.index < length kept = omega (arith, within, ap (λ (l : List (Option Source)). length l) c.self.invariant, sources_long entries, length-reverse entries) in
    let source_here : slice_get kept c.args.index ≡ Some one = slice_get-get_or kept c.args.index one below ∙ ap Some (sym c.index.ensures) in
    c.from_residual-in_err-v.ensures ∙ ap (read_with step) (sym c.in_err-v.was) ∙ c.with_source.ensures step
    ∙ told_of entries kept c.self.invariant c.args.index step c.in_ok-step.reply here one source_here entry at)

pub returns-in_err-v-clause-alone : goal.returns-in_err-v-clause-alone
returns-in_err-v-clause-alone c = alone_read c.args.self.now c.args.index _ (rw (← c.self.view_is) c.entry.ensures.legal) (returns-in_err-v-clause-read c)

pub returns-clause-past : goal.returns-clause-past
returns-clause-past c = rw (← c.self.view_is) (λ past.
    let entries = c.self.inside.history.entries in
    let found : Entry = (c.in_ok-step.step, c.in_ok-step.reply) in
    let here : slice_get (reverse entries) c.args.index ≡ Some found = sym c.entry.ensures.entry ∙ c.in_ok-step.was in
    absurd (omega (arith, past, slice_get_within (reverse entries) c.args.index found here, length-reverse entries)))

pub returns-clause-read : goal.returns-clause-read
unfolding read_with
returns-clause-read c = rw (← c.self.view_is) (λ entry at.
    let inside = c.self.inside in
    let entries = inside.history.entries in
    let kept = inside.sources.items in
    let one = c.index.result.now in
    let step = c.in_ok-step.step in
    let found : Entry = (step, c.in_ok-step.reply) in
    let here : slice_get (reverse entries) c.args.index ≡ Some found = sym c.entry.ensures.entry ∙ c.in_ok-step.was in
    let within = slice_get_within (reverse entries) c.args.index found here in
    let below : c.args.index < length kept = omega (arith, within, ap (λ (l : List (Option Source)). length l) c.self.invariant, sources_long entries, length-reverse entries) in
    let source_here : slice_get kept c.args.index ≡ Some one = slice_get-get_or kept c.args.index one below ∙ ap Some (sym c.index.ensures) in
    let back : to_z w64 (of_z w64 c.in_ok-v.v) ≡ c.in_ok-v.v = grind (arith, to_z-of_z) in
    rw back (ap (read_with step) (sym c.in_ok-v.was)) ∙ c.with_source.ensures step ∙ told_of entries kept c.self.invariant c.args.index step c.in_ok-step.reply here one source_here entry at)

pub returns-clause-alone : goal.returns-clause-alone
returns-clause-alone c = alone_read c.args.self.now c.args.index _ (rw (← c.self.view_is) c.entry.ensures.legal) (returns-clause-read c)
