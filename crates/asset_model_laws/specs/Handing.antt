-- What a transaction is responsible for that took over what another did.
use Rattle.std.specs.Prelude.{◌≡◌, ◌==◌, ℕ, Bool, true, not, List, ◌∷◌, ◌++◌, Some}
use Rattle.asset_names.specs.declared.names.Txn.{Txn}
use Rattle.asset_names.specs.declared.sets.ObSet.{ObSet}
use Rattle.asset_names.specs.declared.statuses.End.TheVariants.{Committed}
use Rattle.asset_names.specs.declared.steps.Step.TheVariants.{Delegate}
use Rattle.asset_names.specs.declared.replies.Reply.TheVariants.{Done}
use Rattle.asset_names.specs.Operations.{operations}
use Rattle.asset_names.specs.Steps.{Opening, Entry, applied}
use Rattle.asset_names.specs.Endings.{end_of}
use Rattle.asset_names.specs.Answers.{IsLegal}
use Rattle.asset_names.specs.Groups.{actor}
use Rattle.asset_model_laws.specs.Owners.{is_on, responsible}

-- whether the step of the entry is one of somebody else
unfoldable pub is_anothers : Txn → Entry → Bool
is_anothers u entry = not ((actor entry.0).0 == u.0)

-- At an entry of the history t has handed over to u what it did on these objects, and u has committed. For each operation on one
-- of them for which t was responsible right before that entry, u was responsible right after it. For each operation for which u
-- was responsible then, it is responsible now, and after each legal history that goes on from here.
pub record StandsAs (opening : Opening) (t u : Txn) (obs : ObSet) (entries : List Entry) : Type 0 where
  pub newer : List Entry
  pub older : List Entry
  pub split : entries ≡ newer ++ (Delegate t u obs, Done) ∷ older
  pub committed : end_of (applied entries) u.0 ≡ Some Committed
  pub takes : (n : ℕ) → responsible (applied older) n ≡ Some t.0 → is_on obs (operations (applied older)) n ≡ true → responsible (applied ((Delegate t u obs, Done) ∷ older)) n ≡ Some u.0
  pub stands : (n : ℕ) (later : List Entry) → responsible (applied ((Delegate t u obs, Done) ∷ older)) n ≡ Some u.0 → IsLegal opening (later ++ entries) → responsible (applied (later ++ entries)) n ≡ Some u.0

-- At an entry of the history t has handed over to u what it did on these objects. For each operation for which t was
-- responsible right before that entry, u is responsible now.
pub record TakesAll (t u : Txn) (obs : ObSet) (entries : List Entry) : Type 0 where
  pub newer : List Entry
  pub older : List Entry
  pub split : entries ≡ newer ++ (Delegate t u obs, Done) ∷ older
  pub takes : (n : ℕ) → responsible (applied older) n ≡ Some t.0 → responsible (applied entries) n ≡ Some u.0
