use Rattle.std.proofs.Common.{inl, inr, rules}
use Rattle.asset_deps.proofs.deps.Deps.would_cycle.Goals as goal

pub would_cycle_apart-requires-clause-apart : goal.would_cycle_apart-requires-clause-apart
would_cycle_apart-requires-clause-apart c = inl c.in_default.ensures.absent

pub would_cycle_apart-requires-in_default-seat_of-clause-apart : goal.would_cycle_apart-requires-in_default-seat_of-clause-apart
would_cycle_apart-requires-in_default-seat_of-clause-apart c = inr c.in_default-seat_of.ensures.absent

pub returns-clause-would_cycle : goal.returns-clause-would_cycle
returns-clause-would_cycle c = search rules
