use Rattle.std.proofs.Common.{◌≡◌, drop}
use Rattle.asset_bodies.specs.Ends.{ends_in, job_end}
use Rattle.asset_bodies.proofs.ends.job_end.Given as goal

abbrev pub invariant-calls : goal.invariant-calls
invariant-calls l = ends_in l.t.0 l.end (drop l.call-index l.calls) ≡ job_end l.t.0 l.calls
