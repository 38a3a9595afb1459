-- Who opens an object and who operates on it, in order, and the joins of these.
use Rattle.std.specs.Prelude.{ℕ, cond, ◌==◌, List, [], ◌∷◌, ◌++◌, map, flat_map, is_some, Option, Some, None}
use Rattle.asset_names.specs.declared.names.Txn.{Txn}
use Rattle.asset_names.specs.declared.names.Ob.{Ob}
use Rattle.asset_names.specs.Steps.{Entry}
use Rattle.asset_entries.specs.Operating.{operator_of, opener_of}
use Rattle.asset_meetings.specs.declared.users.User.{User}

-- t as a user of each object
unfoldable pub users_of : Txn → List Ob → List User
users_of t obs = map (λ (x : Ob). record { t = t; x = x }) obs

-- an opener, if there is one, as a user of each of its objects
unfoldable pub opener_users : Option (Txn × List Ob) → List User
opener_users None = []
opener_users (Some opener) = users_of opener.0 opener.1

-- who opens which objects by open permits that took effect, oldest first
unfoldable pub openers_of : List Entry → List User
openers_of [] = []
openers_of (entry ∷ older) = openers_of older ++ opener_users (opener_of entry.0 entry.1)

-- an operator, if there is one, as a user of its object, if somebody is noted for the object
unfoldable pub operator_users : (ℕ → Option Txn) → Option (Txn × Ob) → List User
operator_users noted None = []
operator_users noted (Some operator) = cond (is_some (noted operator.1.0)) (record { t = operator.0; x = operator.1 } ∷ []) []

-- who operates on which objects by operations that took effect, oldest first, of objects for which somebody is noted
unfoldable pub operators_of : (ℕ → Option Txn) → List Entry → List User
operators_of noted [] = []
operators_of noted (entry ∷ older) = operators_of noted older ++ operator_users noted (operator_of entry.0 entry.1)

-- who is noted for x after one more user
unfoldable pub noted_by : Option Txn → User → ℕ → Option Txn
noted_by (Some t) used x = Some t
noted_by None used x = cond (used.x.0 == x) (Some used.t) None

-- the first user of x
unfoldable pub first_user : List User → ℕ → Option Txn
first_user [] x = None
first_user (used ∷ users) x = cond (used.x.0 == x) (Some used.t) (first_user users x)

-- the join of t with another, if there is one
unfoldable pub joins_of : Txn → Option Txn → List (Txn × Txn)
joins_of t None = []
joins_of t (Some other) = (t, other) ∷ []

-- the joins of users with those who are noted for the objects
unfoldable pub joined_with : (ℕ → Option Txn) → List User → List (Txn × Txn)
joined_with noted users = flat_map (λ (used : User). joins_of used.t (noted used.x.0)) users

-- those of all openers with the first operators, and of all operators with the first openers
unfoldable pub meetings_by : List User → List User → List (Txn × Txn)
meetings_by opened operated = joined_with (first_user operated) opened ++ joined_with (first_user opened) operated

-- the joins of those who met
unfoldable pub meetings_of : List Entry → List (Txn × Txn)
meetings_of entries = meetings_by (openers_of entries) (operators_of (first_user (openers_of entries)) entries)
