use Rattle.std.proofs.Common.{◌≡◌}
use Rattle.std.specs.Prelude.{Some}
use Rattle.asset_names.specs.Counted.{IsBelow}
use Rattle.asset_manager.proofs.session.await_end.Given as goal

abbrev pub invariant-loop : goal.invariant-loop
invariant-loop l = (l.pass.of ≡ Some l.watch) × IsBelow l.initial.pass.last l.pass.last
