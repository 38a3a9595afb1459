-- Commits that a history answers.
use Rattle.std.specs.Prelude.{ℕ, Bool, false, List, Option, Some, None}
use Rattle.std.specs.List.{list_any}
use Rattle.asset_names.specs.declared.names.Txn.{Txn}
use Rattle.asset_names.specs.declared.steps.Step.{Step}
use Rattle.asset_names.specs.declared.steps.Step.TheVariants.{Commit}
use Rattle.asset_names.specs.declared.replies.Reply.{Reply}
use Rattle.asset_names.specs.declared.replies.Reply.TheVariants as Reply'
use Rattle.asset_names.specs.Steps.{Entry}

-- the transaction whose commit the reply answers with `Committed`
unfoldable pub committer : Step → Reply → Option Txn
committer (Commit t) Reply'.Committed = Some t
committer step reply = None

-- a transaction is there, and passes the test
unfoldable pub passes : (ℕ → Bool) → Option Txn → Bool
passes test (Some t) = test t.0
passes test None = false

-- whether a commit of a transaction that passes the test was answered with `Committed`
unfoldable pub has_commit : (ℕ → Bool) → List Entry → Bool
has_commit test entries = list_any (λ (entry : Entry). passes test (committer entry.0 entry.1)) entries

-- the transaction whose commit the entry answers with `Committed`, if there is an entry and it does
abbrev pub commit_at : Option Entry → Option Txn
commit_at None = None
commit_at (Some entry) = committer entry.0 entry.1
