-- The lines that a script's run prints.
use Rattle.std.specs.Prelude.{ℕ, List, [], ◌∷◌, ◌++◌, Option, None, Some, codes}
use Rattle.std.specs.Fmt.{decimal, signed_decimal}
use Rattle.asset_names.specs.declared.replies.Refusal.{Refusal}
use Rattle.asset_names.specs.declared.replies.Refusal.TheVariants.{Unknown, Ended, NotRunning, Taken, Begun, NoObject, Same, Cycle, TooLate}
use Rattle.asset_names.specs.declared.replies.Reply.{Reply}
use Rattle.asset_names.specs.declared.replies.Reply.TheVariants.{Done, Value, Committed, Aborted, Refused}
use Rattle.asset_names.specs.declared.replies.Outcome.{Outcome}
use Rattle.asset_names.specs.declared.replies.Outcome.TheVariants.{Answer, Wait}

-- the end of a line
unfoldable pub line_end : List ℕ
line_end = 10 ∷ []

-- the line of a refusal: which rule it was, and the number of what it is about, if it is about something
unfoldable pub refusal_line : Refusal → List ℕ
refusal_line (Unknown t) = codes "refused unknown " ++ decimal t.0 ++ line_end
refusal_line (Ended t) = codes "refused ended " ++ decimal t.0 ++ line_end
refusal_line (NotRunning t) = codes "refused not running " ++ decimal t.0 ++ line_end
refusal_line (Taken t) = codes "refused taken " ++ decimal t.0 ++ line_end
refusal_line (Begun t) = codes "refused begun " ++ decimal t.0 ++ line_end
refusal_line (NoObject x) = codes "refused no object " ++ decimal x.0 ++ line_end
refusal_line Same = codes "refused same" ++ line_end
refusal_line Cycle = codes "refused cycle" ++ line_end
refusal_line (TooLate t) = codes "refused too late " ++ decimal t.0 ++ line_end

-- the line of a refusal by a rule in words, about a name or about none
unfoldable pub refused_by : List ℕ → Option ℕ → List ℕ
refused_by rule (Some name) = codes "refused " ++ rule ++ codes " " ++ decimal name ++ line_end
refused_by rule None = codes "refused " ++ rule ++ line_end

-- the line of a reply
unfoldable pub reply_line : Reply → List ℕ
reply_line Done = codes "ok" ++ line_end
reply_line (Value v) = signed_decimal v ++ line_end
reply_line Committed = codes "committed" ++ line_end
reply_line Aborted = codes "aborted" ++ line_end
reply_line (Refused refusal) = refusal_line refusal

-- the line of a step's outcome
unfoldable pub outcome_line : Outcome → List ℕ
outcome_line (Answer reply) = reply_line reply
outcome_line Wait = codes "wait" ++ line_end

-- the line of a step for which the history has no room
unfoldable pub full_line : List ℕ
full_line = codes "full" ++ line_end

-- the line that answers a bad line, with its number
unfoldable pub bad_line : ℕ → List ℕ
bad_line number = codes "line " ++ decimal number ++ codes ": bad command" ++ line_end
