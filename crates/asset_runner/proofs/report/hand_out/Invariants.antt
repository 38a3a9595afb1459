use Rattle.std.proofs.Common.{◌≡◌, ◌≤◌, ◌+◌, ◌++◌, List, length, map, vec_len}
use Rattle.std.specs.Prelude.{vec_capacity}
use Rattle.asset_manager.specs.Asker.{Asker}
use Rattle.asset_runner.specs.Runs.{JobRun}
use Rattle.asset_runner.specs.Rows.{runs_of, kept_of}
use Rattle.asset_runner.proofs.report.hand_out.Given as goal

abbrev pub invariant-order : goal.invariant-order
invariant-order g l = (map (λ j. (j.name, j.body)) l.left.items ≡ kept_of l.yielded)
    × (map (λ (s : Asker). s.list.calls) l.sessions.items ≡ map (λ (s : Asker). s.list.calls) l.fn.sessions.items ++ map (λ (s : JobRun). s.calls) (runs_of l.yielded))
    × (l.yielded ++ l.arrival-iterator.rest.items ≡ l.fn.order.items)
    × (length l.left.items ≤ length l.yielded) × (vec_len l.fn.order ≤ vec_capacity l.left)
    × (length l.sessions.items ≡ vec_len l.fn.sessions + length l.yielded) × (vec_len l.fn.sessions + vec_len l.fn.order ≤ vec_capacity l.sessions)
    × ((rest : List Asker) × (l.sessions.items ≡ l.fn.sessions.items ++ rest))
