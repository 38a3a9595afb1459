use Rattle.std.proofs.Common.{Some, sym, ap, ◌∙◌}
use Rattle.asset_names.specs.Steps.{applied}
use Rattle.asset_names.specs.Sources.{source}
use Rattle.asset_laws.specs.Renumbered.{renumbered, zeroed}
use Rattle.asset_sources.specs.Sourced.{source_of}
use Rattle.asset_sources.proofs.WalkLemmas.{numbered_value, no_read, no_value}
use Rattle.asset_sources.proofs.walking.source_read.Goals as goal

pub returns-in-Value : goal.returns-in-Value
unfolding source_of
returns-in-Value c = λ opening older small stand legal.
    let here = rw (c.in-Read.is, c.in-Value.is) at legal in
    let read = c.value.ensures.shown (zeroed opening) (applied (renumbered older)) stand ∙ numbered_value opening older c.in-Read.t c.in-Read.x c.in-Value.field-0 small here in
    rw (c.in-Read.is, c.in-Value.is) (ap Some (c.source_numbered.ensures (source older c.in-Read.x.0) read))

pub returns-in_default-reply : goal.returns-in_default-reply
returns-in_default-reply c = λ opening older small stand legal. sym (no_value older c.args.step.now c.args.reply.now c.in_default-reply.not-Value)

pub returns-in_default : goal.returns-in_default
returns-in_default c = λ opening older small stand legal. sym (no_read older c.args.step.now c.args.reply.now c.in_default.not-Read)
