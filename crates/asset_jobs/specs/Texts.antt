-- What is written of jobs.
use Rattle.std.specs.Prelude.{ℕ, List, ◌++◌, flat_map, Result, Ok, Err, codes}
use Rattle.std.specs.Fmt.{decimal}
use Rattle.asset_names.specs.declared.names.Txn.{Txn}
use Rattle.asset_names.specs.declared.counts.Counts.{Counts}
use Rattle.asset_audit.specs.declared.auditing.AuditFault.{AuditFault}
use Rattle.asset_audit.specs.declared.auditing.AuditFault.TheVariants.{Differs, Missing}
use Rattle.asset_printing.specs.Texts.{line_end}
use Rattle.asset_jobs.specs.declared.rows.JobText.{JobText}
use Rattle.asset_jobs.specs.declared.rows.JobText.TheVariants.{Committed, Aborted, Unsettled, NotBegun}

-- the words of an end
unfoldable pub end_text : JobText → List ℕ
end_text Committed = codes "committed"
end_text Aborted = codes "aborted"
end_text Unsettled = codes "unsettled"
end_text NotBegun = codes "not begun"

-- the line of a job
unfoldable pub row_line : Txn × JobText → List ℕ
row_line row = codes "job " ++ decimal row.0.0 ++ codes " " ++ end_text row.1 ++ line_end

-- the line of an audit that found nothing, with the counts
unfoldable pub counts_line : Counts → List ℕ
counts_line counts = codes "audit ok entries " ++ decimal counts.entries ++ codes " committed " ++ decimal counts.committed ++ codes " aborted " ++ decimal counts.aborted ++ line_end

-- the line of what an audit found
unfoldable pub fault_line : AuditFault → List ℕ
fault_line (Differs session number) = codes "audit differs " ++ decimal session ++ codes " " ++ decimal number ++ line_end
fault_line (Missing told kept) = codes "audit missing " ++ decimal told ++ codes " " ++ decimal kept ++ line_end

-- the line of an audit
unfoldable pub audit_line : Result Unit AuditFault → Counts → List ℕ
audit_line (Ok u) counts = counts_line counts
audit_line (Err fault) counts = fault_line fault

-- the lines of the jobs in order, and then that of the audit
unfoldable pub jobs_text : List (Txn × JobText) → Result Unit AuditFault → Counts → List ℕ
jobs_text rows audit counts = flat_map row_line rows ++ audit_line audit counts
