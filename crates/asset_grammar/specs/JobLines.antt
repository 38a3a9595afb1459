-- What a line of a job script says.
use Rattle.std.specs.Prelude.{◌≡◌, ℕ, cond, nat_lt, List, [], ◌∷◌, length, Option, None, Some, option_map, unwrap_or, ℤ, codes}
use Rattle.std.specs.Str.{bytes_eq}
use Rattle.asset_names.specs.declared.names.Ob.{Ob}
use Rattle.asset_grammar.specs.declared.job_lines.JobAct.{JobAct}
use Rattle.asset_grammar.specs.declared.job_lines.JobAct.TheVariants.{Read, Write, Add, GiveUp}
use Rattle.asset_grammar.specs.declared.job_lines.JobLine.{JobLine}
use Rattle.asset_grammar.specs.declared.job_lines.JobLine.TheVariants.{Blank, Object, Job, Act, Bad}
use Rattle.asset_grammar.specs.Grammar.{is_blank}
use Rattle.asset_grammar.specs.Operands.{object_and_value, one_object, one_txn}
use Rattle.asset_grammar.specs.Words.{words}

-- the act that gives up, whose one operand is `up`
unfoldable pub give_up : List (List ℕ) → Option JobAct
give_up (word ∷ []) = cond (bytes_eq word (codes "up")) (Some GiveUp) None
give_up _ = None

-- the act that a first word and the operands say
unfoldable pub act_by : List ℕ → List (List ℕ) → Option JobAct
act_by word operands =
    cond (bytes_eq word (codes "read")) (option_map Read (one_object operands))
    (cond (bytes_eq word (codes "write")) (option_map (λ (a : Ob × ℤ). Write a.0 a.1) (object_and_value operands))
    (cond (bytes_eq word (codes "add")) (option_map (λ (a : Ob × ℤ). Add a.0 a.1) (object_and_value operands))
    (cond (bytes_eq word (codes "give")) (give_up operands) None)))

-- What the words of a line say. The first one tells object lines, the lines that begin a job, and acts.
unfoldable pub job_line_from : List (List ℕ) → Option JobLine
job_line_from [] = None
job_line_from (word ∷ operands) =
    cond (bytes_eq word (codes "object")) (option_map Object (object_and_value operands))
    (cond (bytes_eq word (codes "job")) (option_map Job (one_txn operands)) (option_map Act (act_by word operands)))

-- what a line is if it is short enough
abbrev pub any_job_line_of : List ℕ → JobLine
any_job_line_of line = cond (is_blank line) Blank (unwrap_or (job_line_from (words line)) Bad)

-- What a line is. One of more than 4,096 bytes is bad, whatever it begins with.
unfoldable pub job_line_of : List ℕ → JobLine
job_line_of line = cond (nat_lt 4096 (length line)) Bad (any_job_line_of line)

-- the first line was read; or no line is left
unfoldable pub ReadsJobLine : List (List ℕ) → Option JobLine → List (List ℕ) → Type 0
ReadsJobLine old None new = (old ≡ []) × (new ≡ [])
ReadsJobLine old (Some said) new = (line : List ℕ) × (old ≡ line ∷ new) × (job_line_of line ≡ said)
