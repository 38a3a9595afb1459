-- Because of whom a transaction waits, by the steps that took effect.
use Rattle.std.specs.Prelude.{ℕ, Bool, true, not, ◌==◌, ◌&&◌, ◌||◌, List}
use Rattle.asset_names.specs.declared.operations.Op.{Op}
use Rattle.asset_names.specs.declared.operations.Op.TheVariants as Op'
use Rattle.asset_names.specs.declared.statuses.Status.{Status}
use Rattle.asset_names.specs.declared.steps.Step.{Step}
use Rattle.asset_names.specs.Arrows.{among}
use Rattle.asset_names.specs.Answers.{is_completed}
use Rattle.asset_names.specs.Endings.{live, status, same_class, class_arrows, order_arrows}
use Rattle.asset_names.specs.Operations.{conflict, holds, allows}
use Rattle.asset_deps.specs.Dependencies.{is_outside_of}
use Rattle.asset_ends.specs.declared.waiting.Who.{Who}
use Rattle.asset_ends.specs.declared.waiting.Who.TheVariants.{All, Unfinished}

-- whether u holds x by an operation in conflict with op
unfoldable pub holds_against : List Step → ℕ → ℕ → Op → Bool
holds_against steps u x op = holds steps u x Op'.Read && conflict Op'.Read op || holds steps u x Op'.Write && conflict Op'.Write op || holds steps u x Op'.Add && conflict Op'.Add op

-- whether u blocks t from op on x: it is another, which holds x by an operation in conflict and does not allow t
unfoldable pub is_blocker : List Step → ℕ → ℕ → Op → ℕ → Bool
is_blocker steps t x op u = not (u == t) && not (allows steps u t x op) && holds_against steps u x op

-- whether u keeps the class of t, which is live, from a commit: it is a member that has not completed
unfoldable pub is_unfinished : List Step → ℕ → ℕ → Bool
is_unfinished steps t u = live steps t && same_class steps t u && not (is_completed (status steps u))

-- whether u keeps the class of t, which is live, from a commit from outside: it is live, no member, and the source of a
-- commit or an abort dependency of a member
unfoldable pub is_outside_source : List Step → ℕ → ℕ → Bool
is_outside_source steps t u = live steps t && is_outside_of (among (live steps) (class_arrows steps)) (among (live steps) (order_arrows steps)) t u

-- whether one of this status is among those who are looked for
unfoldable pub is_sought : Who → Status → Bool
is_sought All status = true
is_sought Unfinished status = not (is_completed status)
