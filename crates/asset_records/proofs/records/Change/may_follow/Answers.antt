use Rattle.std.proofs.Common.{rules, ap}
use Rattle.asset_records.specs.declared.records.Change.{Change}
use Rattle.asset_records.specs.Listed.{record_of}
use Rattle.asset_records.specs.Mended.{is_write}
use Rattle.asset_records.proofs.records.Change.may_follow.Goals as goal

pub returns-in-Added : goal.returns-in-Added
unfolding record_of is_write
returns-in-Added c = λ may over owner. ap (λ (change : Change). is_write (record_of owner change)) c.in-Added.is

pub returns-in-Wrote : goal.returns-in-Wrote
returns-in-Wrote c = search rules
