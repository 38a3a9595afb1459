use Rattle.std.proofs.Common.{sym, ◌∙◌, rules}
use Rattle.asset_names.proofs.AppliedLemmas.{applied_with_effect, applied_without_effect}
use Rattle.asset_names.proofs.Common.{on_ok}
use Rattle.asset_steps.proofs.applying.apply.Goals as goal

pub returns-clause-stand : goal.returns-clause-stand
returns-clause-stand c = on_ok c.apply_step.result
    (λ stands. λ opening older stand orderly. rw (applied_with_effect (c.args.step.now, c.args.reply) older (sym c.takes_effect.ensures ∙ c.if-not-takes_effect.false)) (stands opening _ stand orderly))
    c.apply_step.ensures.stand

pub returns-then-not-takes_effect-clause-stand : goal.returns-then-not-takes_effect-clause-stand
returns-then-not-takes_effect-clause-stand c = λ opening older stand orderly.
    rw (applied_without_effect (c.args.step.now, c.args.reply) older (sym c.takes_effect.ensures ∙ c.if-not-takes_effect.true)) (search rules)
