-- A history has room for its entries if its capacity is three times their number.
use Rattle.std.proofs.Common.{ℕ, ◌+◌, ◌*◌, ◌≤◌, Bool, true, false, cond, List, [], ◌∷◌, length, arith}
use Rattle.std.specs.Prelude.{sum_by}
use Rattle.std.proofs.lemmas.Bool.{le-leb}
use Rattle.std.proofs.lemmas.List.{length-append}
use Rattle.std.proofs.lemmas.List.Sums.{sum_by-cons}
use Rattle.asset_names.specs.declared.statuses.Status.{Status}
use Rattle.asset_names.specs.declared.statuses.Status.TheVariants as Status'
use Rattle.asset_names.specs.declared.steps.Step.{Step}
use Rattle.asset_names.specs.declared.steps.Step.TheVariants.{Initiate}
use Rattle.asset_names.specs.Steps.{Entry, applied, initiated, initiated_by, takes_effect}
use Rattle.asset_names.specs.Endings.{status}
use Rattle.asset_names.specs.Room.{fits, owed, owed_to}
use Rattle.asset_cli.specs.Again.{FitThroughout}

-- nobody is owed more than two entries
owed_few : (s : Status) → owed_to s ≤ 2
unfolding owed_to
owed_few Status'.Initiated = omega arith
owed_few Status'.Running = omega arith
owed_few Status'.Completed = omega arith
owed_few other = omega arith

sum_few : (f : ℕ → ℕ) (ns : List ℕ) → ((n : ℕ) → f n ≤ 2) → sum_by f ns ≤ 2 * length ns
sum_few f [] few = omega arith
sum_few f (n ∷ ns) few = omega (arith, sum_by-cons f n ns, few n, sum_few f ns few)

-- an entry initiates at most one transaction
one_initiated : (step : Step) → length (initiated_by step) ≤ 1
unfolding initiated_by
one_initiated (Initiate t parent) = omega arith
one_initiated step = omega arith

initiated_few : (entries : List Entry) → length (initiated (applied entries)) ≤ length entries
unfolding applied initiated
initiated_few [] = omega arith
initiated_few (entry ∷ older) = go (takes_effect entry.0 entry.1) (initiated_few older) where
  go : (b : Bool) → length (initiated (applied older)) ≤ length older → length (initiated (cond b (entry.0 ∷ applied older) (applied older))) ≤ length (entry ∷ older)
  go true rest = omega (arith, rest, one_initiated entry.0, length-append (initiated_by entry.0) (initiated (applied older)))
  go false rest = omega (arith, rest)

owed_within : (entries : List Entry) → owed (applied entries) ≤ 2 * length entries
unfolding owed
owed_within entries =
    omega (arith, initiated_few entries, sum_few (λ n. owed_to (status (applied entries) n)) (initiated (applied entries)) (λ n. owed_few (status (applied entries) n)))

pub room_for_all : (entries : List Entry) (capacity : ℕ) → 3 * length entries ≤ capacity → FitThroughout entries capacity
unfolding FitThroughout fits
room_for_all [] capacity enough = tt
room_for_all (entry ∷ older) capacity enough =
    (le-leb (length older + 1 + owed (applied (entry ∷ older))) capacity (omega (arith, owed_within (entry ∷ older), enough)), room_for_all older capacity (omega (arith, enough)))
