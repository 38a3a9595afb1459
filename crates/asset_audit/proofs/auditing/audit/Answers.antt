use Rattle.std.proofs.Common.{rules}
use Rattle.asset_audit.proofs.auditing.audit.Goals as goal

pub returns-in-Some-clause-audit : goal.returns-in-Some-clause-audit
returns-in-Some-clause-audit g c = search rules

pub returns-in-None-clause-audit : goal.returns-in-None-clause-audit
returns-in-None-clause-audit g c = search rules
