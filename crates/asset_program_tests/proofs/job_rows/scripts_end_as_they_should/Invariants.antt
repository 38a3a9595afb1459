-- The plan keeps the manager that was opened.
use Rattle.std.proofs.Common.{◌≡◌}
use Rattle.std.specs.Arc.{arc_value}
use Rattle.asset_program_tests.proofs.job_rows.scripts_end_as_they_should.Given as goal

abbrev pub invariant-jobs : goal.invariant-jobs
invariant-jobs g l = arc_value l.plan.manager ≡ arc_value l.begun.manager
