-- What short job scripts say.
use Rattle.std.specs.Prelude.{◌≡◌, ◌++◌, ℕ, List, [], ◌∷◌, flat_map, Ok, Err, pos, codes, refl}
use Rattle.asset_grammar.specs.declared.job_lines.JobAct.TheVariants.{Read, Write, GiveUp}
use Rattle.asset_grammar.specs.Operands.{txn, ob, txn_of, ob_of, both, one_object, one_txn, object_and_value}
use Rattle.asset_grammar.specs.Numbers.{is_numeral, number_of, positive_value, value_of}
use Rattle.asset_grammar.specs.Words.{words, parts}
use Rattle.asset_grammar.specs.Lines.{lines}
use Rattle.asset_grammar.specs.Grammar.{is_blank}
use Rattle.asset_grammar.specs.JobLines.{give_up, act_by, job_line_from, job_line_of}
use Rattle.asset_names.specs.Operations.{exists, opening_at}
use Rattle.asset_jobs.specs.Jobs.{has_none, has_job, with_act, with_line, line_then, said_from, jobs_of}

-- the bytes of some lines, each with its line feed
abbrev bytes_of : List (List ℕ) → List ℕ
bytes_of texts = flat_map (λ text. text ++ 10 ∷ []) texts

-- two jobs on objects of their own
apart : jobs_of (bytes_of (codes "object 1 100" ∷ codes "object 2 200" ∷ codes "job 7" ∷ codes "write 1 150" ∷ codes "job 8" ∷ codes "write 2 250" ∷ [])) ≡ Ok (record { opening = (ob 1, pos 100) ∷ (ob 2, pos 200) ∷ []; jobs = (txn 7, Write (ob 1) (pos 150) ∷ []) ∷ (txn 8, Write (ob 2) (pos 250) ∷ []) ∷ [] })
unfolding jobs_of said_from line_then with_line with_act has_none has_job exists opening_at lines job_line_of job_line_from act_by give_up is_blank words parts one_txn one_object object_and_value both txn_of ob_of value_of positive_value number_of is_numeral
apart = refl

-- a job that gives up
given_up : jobs_of (bytes_of (codes "object 1 100" ∷ codes "job 7" ∷ codes "read 1" ∷ codes "write 1 5" ∷ codes "give up" ∷ [])) ≡ Ok (record { opening = (ob 1, pos 100) ∷ []; jobs = (txn 7, Read (ob 1) ∷ Write (ob 1) (pos 5) ∷ GiveUp ∷ []) ∷ [] })
unfolding jobs_of said_from line_then with_line with_act has_none has_job exists opening_at lines job_line_of job_line_from act_by give_up is_blank words parts one_txn one_object object_and_value both txn_of ob_of value_of positive_value number_of is_numeral
given_up = refl

-- a job may have no acts, and lines that say nothing count
nothing : jobs_of (bytes_of (codes "# jobs" ∷ [] ∷ codes "job 7" ∷ [])) ≡ Ok (record { opening = []; jobs = (txn 7, []) ∷ [] })
unfolding jobs_of said_from line_then with_line with_act has_none has_job exists opening_at lines job_line_of job_line_from act_by give_up is_blank words parts one_txn one_object object_and_value both txn_of ob_of value_of positive_value number_of is_numeral
nothing = refl

-- an object comes once
object_twice : jobs_of (bytes_of (codes "object 1 100" ∷ codes "object 1 100" ∷ [])) ≡ Err 2
unfolding jobs_of said_from line_then with_line with_act has_none has_job exists opening_at lines job_line_of job_line_from act_by give_up is_blank words parts one_txn one_object object_and_value both txn_of ob_of value_of positive_value number_of is_numeral
object_twice = refl

-- an object line stands before all jobs
object_late : jobs_of (bytes_of (codes "job 7" ∷ codes "object 1 100" ∷ [])) ≡ Err 2
unfolding jobs_of said_from line_then with_line with_act has_none has_job exists opening_at lines job_line_of job_line_from act_by give_up is_blank words parts one_txn one_object object_and_value both txn_of ob_of value_of positive_value number_of is_numeral
object_late = refl

-- an act is of a job
act_first : jobs_of (bytes_of (codes "object 1 100" ∷ codes "# no job" ∷ codes "write 1 5" ∷ codes "job 7" ∷ [])) ≡ Err 3
unfolding jobs_of said_from line_then with_line with_act has_none has_job exists opening_at lines job_line_of job_line_from act_by give_up is_blank words parts one_txn one_object object_and_value both txn_of ob_of value_of positive_value number_of is_numeral
act_first = refl

-- a name begins one job
job_twice : jobs_of (bytes_of (codes "job 7" ∷ codes "job 8" ∷ codes "job 7" ∷ [])) ≡ Err 3
unfolding jobs_of said_from line_then with_line with_act has_none has_job exists opening_at lines job_line_of job_line_from act_by give_up is_blank words parts one_txn one_object object_and_value both txn_of ob_of value_of positive_value number_of is_numeral
job_twice = refl

-- the steps of scripts are no acts
step_line : jobs_of (bytes_of (codes "job 7" ∷ codes "commit 7" ∷ [])) ≡ Err 2
unfolding jobs_of said_from line_then with_line with_act has_none has_job exists opening_at lines job_line_of job_line_from act_by give_up is_blank words parts one_txn one_object object_and_value both txn_of ob_of value_of positive_value number_of is_numeral
step_line = refl

-- `give` needs `up`, alone
given_up_to : jobs_of (bytes_of (codes "job 7" ∷ codes "give up 7" ∷ [])) ≡ Err 2
unfolding jobs_of said_from line_then with_line with_act has_none has_job exists opening_at lines job_line_of job_line_from act_by give_up is_blank words parts one_txn one_object object_and_value both txn_of ob_of value_of positive_value number_of is_numeral
given_up_to = refl

-- no line, no object and no job
empty_script : jobs_of [] ≡ Ok (record { opening = []; jobs = [] })
unfolding jobs_of said_from lines
empty_script = refl
