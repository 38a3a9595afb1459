use Rattle.std.proofs.Common.{sym, ◌∙◌, ap, arith}
use Rattle.asset_names.specs.Steps.{applied}
use Rattle.asset_names.specs.Room.{owed}
use Rattle.asset_names.proofs.AppliedLemmas.{applied_with_effect, applied_without_effect}
use Rattle.asset_names.proofs.RoomLemmas.{owed_new, owed_stays}
use Rattle.asset_entries.specs.Recorded.{answer_to}
use Rattle.asset_core.proofs.ValidLemmas.{valid_owed, valid_orderly}
use Rattle.asset_core.proofs.facility.Core.owed_after.Goals as goal
use Rattle.asset_core.proofs.facility.Core.owed_after.Goals.{else-effect-via-then-effect+else-initiates, else-effect-via-else-effect}

pub overflow_add-result : goal.overflow_add-result
overflow_add-result c =
    let valid = c.self.invariant in
    let counts = c.owed-owed.ensures.counted ∙ valid_owed c.self.inside.history c.self.inside.tables valid in
    omega (arith, counts, valid.fitting, valid.capacity)

pub returns-then-initiates-clause-owed : goal.returns-then-initiates-clause-owed
unfolding answer_to
returns-then-initiates-clause-owed c =
    let valid = c.self.invariant in
    let entries = c.self.inside.history.entries in
    let counts = c.owed-owed.ensures.counted ∙ valid_owed c.self.inside.history c.self.inside.tables valid in
    let effect = sym c.requires.effect ∙ c.if-effect.true in
    let new = sym c.initiates.ensures ∙ c.if-initiates.true in
    let grown = owed_new _ (applied entries) c.args.step.now c.args.reply (valid_orderly c.self.inside.history c.self.inside.tables valid) (rw (← c.self.view_is) at c.requires.answer) effect new in
    rw (← c.self.view_is) (omega (arith, counts, grown, ap owed (applied_with_effect (c.args.step.now, c.args.reply) entries effect)))

pub returns-then-initiates-clause-bound : goal.returns-then-initiates-clause-bound
returns-then-initiates-clause-bound c =
    let counts = c.owed-owed.ensures.counted ∙ valid_owed c.self.inside.history c.self.inside.tables c.self.invariant in
    rw (← c.self.view_is) (omega (arith, counts))

pub returns-else-effect-clause-owed : goal.returns-else-effect-clause-owed
returns-else-effect-clause-owed c =
    let valid = c.self.invariant in
    let entries = c.self.inside.history.entries in
    let counts = c.owed-owed.ensures.counted ∙ valid_owed c.self.inside.history c.self.inside.tables valid in
    rw (← c.self.view_is) (elim c.else-effect.branch [
      | else-effect-via-then-effect+else-initiates w ↦
          let effect = sym c.requires.effect ∙ w.if-effect.true in
          let quiet = rw (← c.self.view_is) at c.requires.quiet in
          counts ∙ sym (owed_stays (applied entries) c.args.step.now c.args.reply (valid_orderly c.self.inside.history c.self.inside.tables valid) effect quiet (sym w.initiates.ensures ∙ w.if-initiates.false))
          ∙ sym (ap owed (applied_with_effect (c.args.step.now, c.args.reply) entries effect))
      | else-effect-via-else-effect w ↦ counts ∙ sym (ap owed (applied_without_effect (c.args.step.now, c.args.reply) entries (sym c.requires.effect ∙ w.if-effect.false)))
    ])

pub returns-else-effect-clause-bound : goal.returns-else-effect-clause-bound
returns-else-effect-clause-bound c =
    let counts = c.owed-owed.ensures.counted ∙ valid_owed c.self.inside.history c.self.inside.tables c.self.invariant in
    rw (← c.self.view_is) (omega (arith, counts))
