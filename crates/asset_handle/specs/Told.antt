-- What plain structs tell of outcomes, statuses and operations.
use Rattle.std.specs.Prelude.{ℕ, pos, replicate}
use Rattle.asset_names.specs.declared.operations.Op.{Op}
use Rattle.asset_names.specs.declared.operations.Op.TheVariants as Op'
use Rattle.asset_names.specs.declared.statuses.Status.{Status}
use Rattle.asset_names.specs.declared.statuses.Status.TheVariants as Status'
use Rattle.asset_names.specs.declared.replies.Refusal.{Refusal}
use Rattle.asset_names.specs.declared.replies.Refusal.TheVariants as Refusal'
use Rattle.asset_names.specs.declared.replies.Reply.TheVariants.{Done, Value, Committed, Aborted, Refused}
use Rattle.asset_names.specs.declared.replies.Outcome.{Outcome}
use Rattle.asset_names.specs.declared.replies.Outcome.TheVariants.{Answer, Wait}
use Rattle.asset_handle.specs.declared.plain.PlainAnswer.{PlainAnswer}
use Rattle.asset_handle.specs.declared.plain.PlainStep.{PlainStep}

-- an answer of this kind about this name, without a value
unfoldable pub about : ℕ → ℕ → PlainAnswer
about kind name = record { kind = kind; name = name; value = pos 0 }

-- a refusal: 16 to 24, with the number of what it is about, or 0 if it is about nothing
unfoldable pub told_refusal : Refusal → PlainAnswer
told_refusal (Refusal'.Unknown t) = about 16 t.0
told_refusal (Refusal'.Ended t) = about 17 t.0
told_refusal (Refusal'.NotRunning t) = about 18 t.0
told_refusal (Refusal'.Taken t) = about 19 t.0
told_refusal (Refusal'.Begun t) = about 20 t.0
told_refusal (Refusal'.NoObject x) = about 21 x.0
told_refusal Refusal'.Same = about 22 0
told_refusal Refusal'.Cycle = about 23 0
told_refusal (Refusal'.TooLate t) = about 24 t.0

-- an outcome: 1 done, 2 a value, 3 committed, 4 aborted, 5 wait, or a refusal
unfoldable pub told : Outcome → PlainAnswer
told (Answer Done) = about 1 0
told (Answer (Value v)) = record { kind = 2; name = 0; value = v }
told (Answer Committed) = about 3 0
told (Answer Aborted) = about 4 0
told Wait = about 5 0
told (Answer (Refused refusal)) = told_refusal refusal

-- the number of a status
unfoldable pub status_number : Status → ℕ
status_number Status'.Unknown = 0
status_number Status'.Initiated = 1
status_number Status'.Running = 2
status_number Status'.Completed = 3
status_number Status'.Committed = 4
status_number Status'.Aborted = 5

-- the number of an operation, as in a permit
unfoldable pub op_number : Op → ℕ
op_number Op'.Read = 1
op_number Op'.Write = 2
op_number Op'.Add = 4

-- a plain step that lists nothing
unfoldable pub bare : ℕ → ℕ → ℕ → ℕ → PlainStep
bare kind detail first second = record { kind = kind; detail = detail; first = first; second = second; value = pos 0; count = 0; objects = replicate 16 0 }
