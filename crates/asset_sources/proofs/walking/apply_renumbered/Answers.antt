use Rattle.std.proofs.Common.{sym, ◌∙◌}
use Rattle.asset_sources.proofs.WalkLemmas.{effect_writing}
use Rattle.asset_sources.proofs.walking.apply_renumbered.Goals as goal

pub apply-requires : goal.apply-requires
apply-requires c = record {
  ready = λ effect.
      let numbered = rw c.renumber.ensures at effect in
      rw c.renumber.ensures (c.requires.ready (sym (effect_writing c.args.index c.args.step.now c.args.reply) ∙ numbered));
}

pub returns-clause-stand : goal.returns-clause-stand
returns-clause-stand c = rw c.renumber.ensures at c.in_ok-apply.ensures.stand

pub returns-clause-source : goal.returns-clause-source
returns-clause-source c = c.source_read-found.ensures
