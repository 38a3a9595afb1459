use Rattle.std.proofs.Common.{◌≡◌, ◌≤◌}
use Rattle.std.specs.Prelude.{Some, None}
use Rattle.asset_names.specs.Counted.{IsBelow}
use Rattle.asset_counts.specs.Pass.{IsOf}
use Rattle.asset_manager.proofs.session.Session.call_turns_lent.Given as goal

abbrev pub invariant-loop : goal.invariant-loop
invariant-loop g l =
    IsOf l.self.of l.manager
    × IsBelow l.initial.self.seen l.self.seen
    × (l.self.list.calls ≡ l.initial.self.list.calls)
    × (l.initial.self.list.room ≤ l.self.list.room)
    × (l.self.of ≡ None → l.initial.self.of ≡ None)
    × (l.initial.self.of ≡ Some l.manager → l.self.of ≡ Some l.manager)
