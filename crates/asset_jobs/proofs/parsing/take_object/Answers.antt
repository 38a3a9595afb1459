use Rattle.std.proofs.Common.{sym, ◌∙◌}
use Rattle.asset_jobs.proofs.JobsLemmas.{object_taken, object_late}
use Rattle.asset_jobs.proofs.parsing.take_object.Goals as goal

pub returns-then-not-is_empty : goal.returns-then-not-is_empty
returns-then-not-is_empty c = object_late c.args.opening.now _ c.args.object (sym c.is_empty.ensures ∙ c.if-not-is_empty.true)

pub returns-in-Ok : goal.returns-in-Ok
returns-in-Ok c = object_taken _ _ _ _ _ (sym c.is_empty.ensures ∙ c.if-not-is_empty.false) c.in-Ok.ensures.added c.in-Ok.ensures.grown
