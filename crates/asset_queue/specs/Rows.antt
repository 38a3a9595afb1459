-- What the workers answered, a row for each that had memory for one.
use Rattle.std.specs.Prelude.{◌≡◌, ◌≤◌, ◌<◌, ℕ, List, [], ◌∷◌, ◌++◌, map, Vec, vec_len, vec_capacity}
use Rattle.asset_queue.specs.Each.{Each}
use Rattle.asset_queue.specs.Once.{Ticket}

-- it came of a job that may be there, and has its ticket
pub record Came {J E : Type 0} (from : J → Type 0) (job_ticket : J → Ticket) (ticket : E → Ticket) (came : J → E → Type 0) (e : E) : Type 0 where
  pub job : J
  pub one : from job
  pub same : ticket e ≡ job_ticket job
  pub is : came job e

module _ {E A : Type 0} where
  -- it is so of each answer of each row
  abbrev pub EachOf : (E → Type 0) → List (Vec E A) → Type 0
  EachOf P rows = Each (λ (row : Vec E A). Each P row.items) rows

  -- the tickets of all rows, one row after another
  abbrev pub tickets_of : (E → Ticket) → List (Vec E A) → List Ticket
  tickets_of ticket [] = []
  tickets_of ticket (row ∷ rows) = map ticket row.items ++ tickets_of ticket rows

  -- there are at most so many rows, and room for 64 if there is one
  pub record HasRows {B : Type 0} (n : ℕ) (rows : Vec (Vec E A) B) : Type 0 where
    pub few : vec_len rows ≤ n
    pub room : 0 < vec_len rows → 64 ≤ vec_capacity rows
