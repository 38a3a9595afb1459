-- Within which limits the program works.
use Rattle.std.specs.Prelude.{ℕ, ◌≤◌, ◌&&◌, cond, nat_le, Option, None, Some, option_and_then, option_map}
use Rattle.asset_core.specs.OpenFaults.{IsCapacity}
use Rattle.asset_requests.specs.declared.limits.JobsRequest.{JobsRequest}
use Rattle.asset_requests.specs.declared.limits.Limits.{Limits}

-- the capacity that is requested: 10,000 if no number is given, and none if the number is not from 1 to 1,000,000
unfoldable pub capacity_of : Option ℕ → Option ℕ
capacity_of None = Some 10000
capacity_of (Some n) = cond (nat_le 1 n && nat_le n 1000000) (Some n) None

-- the number of threads that is requested: 2 if no number is given, and none if the number is not from 1 to 64
unfoldable pub workers_of : Option ℕ → Option ℕ
workers_of None = Some 2
workers_of (Some n) = cond (nat_le 1 n && nat_le n 64) (Some n) None

-- the turns that are requested: 1,000 if no number is given, and none if the number is above 1,000,000
unfoldable pub turns_of : Option ℕ → Option ℕ
turns_of None = Some 1000
turns_of (Some n) = cond (nat_le n 1000000) (Some n) None

-- the limits that are requested, if all of them are in range
unfoldable pub limits_by : JobsRequest → Option Limits
limits_by request = option_and_then
    (λ capacity. option_and_then (λ workers. option_map (λ turns. record { capacity = capacity; workers = workers; turns = turns }) (turns_of request.turns)) (workers_of request.workers))
    (capacity_of request.capacity)

-- the numbers are in range
pub record AreLimits (limits : Limits) : Type 0 where
  pub capacity : IsCapacity limits.capacity
  pub some : 1 ≤ limits.workers
  pub few : limits.workers ≤ 64
  pub turns : limits.turns ≤ 1000000
