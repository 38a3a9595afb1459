use Rattle.std.proofs.Common.{[], refl, sym, ◌∙◌}
use Rattle.asset_core.specs.Pending.{facility_of}
use Rattle.asset_shell.specs.Answering.{open_history}
use Rattle.asset_shell.proofs.AnsweringLemmas.{joint_ended, joint_new, joint_objects, joint_open, objects_shown, open_shown}
use Rattle.asset_shell.proofs.answering.open_if_needed.Goals as goal

pub returns-then-is_some-clause-open : goal.returns-then-is_some-clause-open
returns-then-is_some-clause-open c = sym c.is_some.ensures ∙ c.if-is_some.true

pub returns-then-is_some-clause-ended : goal.returns-then-is_some-clause-ended
returns-then-is_some-clause-ended c = joint_ended _ _ c.requires.joint (sym c.is_some.ensures ∙ c.if-is_some.true)

pub returns-then-is_some-clause-history : goal.returns-then-is_some-clause-history
returns-then-is_some-clause-history c = open_shown _ _ _ (sym c.is_some.ensures ∙ c.if-is_some.true)

pub end_objects-requires : goal.end_objects-requires
end_objects-requires c = joint_objects _ _ c.requires.joint (sym c.is_some.ensures ∙ c.if-is_some.false)

pub returns-in-Ok-clause-joint : goal.returns-in-Ok-clause-joint
returns-in-Ok-clause-joint c = joint_open _ _ refl c.end_objects.ensures.ended

pub returns-in-Ok-clause-history : goal.returns-in-Ok-clause-history
unfolding open_history facility_of
returns-in-Ok-clause-history c = rw (c.in-Ok.ensures, c.deref.ensures.value, c.into_pairs-pairs.ensures) (objects_shown _ _ _ _ (sym c.is_some.ensures ∙ c.if-is_some.false) c.end_objects.ensures.objects)

pub returns-clause-joint : goal.returns-clause-joint
returns-clause-joint c = joint_new _ _ [] (sym c.is_some.ensures ∙ c.if-is_some.false) c.new-fresh.ensures
