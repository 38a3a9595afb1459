-- The report on who waits for whom, as text.
use Rattle.std.specs.Prelude.{ℕ, List, [], ◌∷◌, ◌++◌, flat_map, slice_get, Option, Some, None, codes}
use Rattle.std.specs.Fmt.{decimal}
use Rattle.asset_names.specs.declared.names.Ob.{Ob}
use Rattle.asset_names.specs.declared.operations.Op.{Op}
use Rattle.asset_names.specs.declared.statuses.Status.{Status}
use Rattle.asset_names.specs.declared.statuses.Status.TheVariants as Status'
use Rattle.asset_names.specs.declared.steps.Step.{Step}
use Rattle.asset_names.specs.Endings.{status}
use Rattle.asset_core.specs.Pending.{Pending, pending_of}
use Rattle.asset_cycles.specs.Members.{own_labels, members_of}
use Rattle.asset_waits.specs.Waiting.{live_names, blockers_of, unfinished_of, outside_sources_of}
use Rattle.asset_waits.specs.Deadlocks.{deadlock_labels}
use Rattle.asset_waits.specs.Words.{pieces, status_word, op_word, held_words, name_word}

-- ---- one that waits for a request

-- the start of its lines
unfoldable pub request_start : ℕ → ℕ → Op → List ℕ
request_start t x op = pieces (decimal t ∷ codes " waits to " ∷ op_word op ∷ codes " " ∷ decimal x ∷ codes ": " ∷ [])

-- what u holds, which blocks op on x
unfoldable pub holder_text : List Step → ℕ → Op → ℕ → List ℕ
holder_text steps x op u = pieces (decimal u ∷ codes " holds it by " ∷ held_words steps u x op ∷ codes "\n" ∷ [])

-- the line of one who blocks it
unfoldable pub blocker_line : List Step → ℕ → ℕ → Op → ℕ → List ℕ
blocker_line steps t x op u = request_start t x op ++ holder_text steps x op u

-- the line that says that nobody blocks it any more
unfoldable pub nobody_line : ℕ → ℕ → Op → List ℕ
nobody_line t x op = request_start t x op ++ codes "nobody keeps it from that any more\n"

-- the lines of those who block it: it may be that nobody does any more
unfoldable pub blockers_text : List Step → ℕ → ℕ → Op → List ℕ → List ℕ
blockers_text steps t x op [] = nobody_line t x op
blockers_text steps t x op (u ∷ more) = flat_map (blocker_line steps t x op) (u ∷ more)

-- the lines of its pending request, if it has one
unfoldable pub request_text : List Step → ℕ → Option (Ob × Op) → List ℕ
request_text steps t None = []
request_text steps t (Some request) = blockers_text steps t request.0.0 request.1 (blockers_of steps t (Some request))

-- ---- one that has completed, and waits to commit

-- the line of a member of its class that has not completed
unfoldable pub unfinished_line : ℕ → ℕ → List ℕ
unfinished_line t u = pieces (codes "commit " ∷ decimal t ∷ codes " waits: " ∷ decimal u ∷ codes " has not completed\n" ∷ [])

-- the line of a live source outside its class
unfoldable pub source_line : ℕ → ℕ → List ℕ
source_line t u = pieces (codes "commit " ∷ decimal t ∷ codes " waits: " ∷ decimal u ∷ codes " is its source and lives\n" ∷ [])

-- the lines of all who keep it from a commit
unfoldable pub commit_text : List Step → ℕ → List ℕ
commit_text steps t = flat_map (unfinished_line t) (unfinished_of steps t) ++ flat_map (source_line t) (outside_sources_of steps t)

-- ---- live transactions

-- what one of this status waits for, a line for each because of whom
unfoldable pub waits_text : Status → List Step → List Pending → ℕ → List ℕ
waits_text Status'.Running steps pending t = request_text steps t (pending_of t pending)
waits_text Status'.Completed steps pending t = commit_text steps t
waits_text other steps pending t = []

-- the line of a live transaction with its status
unfoldable pub status_line : Status → ℕ → List ℕ
status_line status t = pieces (decimal t ∷ codes " " ∷ status_word status ∷ codes "\n" ∷ [])

-- the lines of a live transaction: its status, and what it waits for
unfoldable pub waiter_text : List Step → List Pending → ℕ → List ℕ
waiter_text steps pending t = status_line (status steps t) t ++ waits_text (status steps t) steps pending t

-- the lines of these transactions
unfoldable pub waiters_text : List Step → List Pending → List ℕ → List ℕ
waiters_text steps pending names = flat_map (waiter_text steps pending) names

-- ---- cycles of waits

-- the name at a place, after a space
unfoldable pub member_word : List ℕ → ℕ → List ℕ
member_word names k = name_word (slice_get names k)

-- the names at places, each after a space
unfoldable pub members_text : List ℕ → List ℕ → List ℕ
members_text names places = flat_map (member_word names) places

-- the line of a cycle of waits: the names at these places, in order of initiation
unfoldable pub deadlock_line : List ℕ → List ℕ → List ℕ
deadlock_line names places = codes "deadlock" ++ (members_text names places ++ codes "\n")

-- the line of the cycle with the label
unfoldable pub label_line : List ℕ → List (Option ℕ) → ℕ → List ℕ
label_line names labels label = deadlock_line names (members_of labels label)

-- a line for each cycle
unfoldable pub deadlocks_text : List ℕ → List (Option ℕ) → List ℕ
deadlocks_text names labels = flat_map (label_line names labels) (own_labels labels)

-- the report: each live transaction in order of initiation, and then each cycle of waits
unfoldable pub report_text : List Step → List Pending → List ℕ
report_text steps pending =
    waiters_text steps pending (live_names steps)
    ++ deadlocks_text (live_names steps) (deadlock_labels steps pending)
