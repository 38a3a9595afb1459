use Rattle.std.proofs.Common.{◌≡◌, ◌<◌, ℕ, Some}
use Rattle.std.specs.Prelude.{slice_get}
use Rattle.asset_runner.proofs.order.is_in_order.Given as goal

abbrev pub invariant-row : goal.invariant-row
invariant-row g l = (i : ℕ) (a : _) → i < l.place → slice_get l.row i ≡ Some a → a.place ≡ i
