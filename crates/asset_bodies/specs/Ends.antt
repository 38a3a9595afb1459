-- How a list of calls says that a transaction ended.
use Rattle.std.specs.Prelude.{ℕ, List, [], ◌∷◌, cond, ◌==◌}
use Rattle.asset_names.specs.declared.steps.Step.TheVariants.{Commit, Abort}
use Rattle.asset_names.specs.declared.replies.Reply.{Reply}
use Rattle.asset_names.specs.declared.replies.Reply.TheVariants as Reply'
use Rattle.asset_names.specs.declared.replies.Refusal.TheVariants.{TooLate}
use Rattle.asset_audit.specs.Audited.{Call}
use Rattle.asset_bodies.specs.declared.ends.JobEnd.{JobEnd}
use Rattle.asset_bodies.specs.declared.ends.JobEnd.TheVariants.{Committed, Aborted, Unsettled}

-- what a reply to a commit or an abort of t says of t
abbrev pub end_by : ℕ → Reply → JobEnd
end_by t Reply'.Committed = Committed
end_by t Reply'.Aborted = Aborted
end_by t (Reply'.Refused (TooLate u)) = cond (u.0 == t) Committed Unsettled
end_by t reply = Unsettled

-- what is known of t after one call more: its commit or its abort replaces what was known
abbrev pub end_after : ℕ → JobEnd → Call → JobEnd
end_after t end (n, Commit u, reply) = cond (u.0 == t) (end_by t reply) end
end_after t end (n, Abort u, reply) = cond (u.0 == t) (end_by t reply) end
end_after t end call = end

abbrev pub ends_in : ℕ → JobEnd → List Call → JobEnd
ends_in t end [] = end
ends_in t end (call ∷ calls) = ends_in t (end_after t end call) calls

-- how t ended: as its last commit or abort was answered, and unsettled if there is none
abbrev pub job_end : ℕ → List Call → JobEnd
job_end t calls = ends_in t Unsettled calls
