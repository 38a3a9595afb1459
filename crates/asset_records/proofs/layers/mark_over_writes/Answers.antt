use Rattle.std.proofs.Common.{ap}
use Rattle.asset_records.specs.declared.records.Change.{Change}
use Rattle.asset_records.specs.Layered.{fits}
use Rattle.asset_records.specs.Listed.{record_of}
use Rattle.asset_records.specs.Mended.{is_write}
use Rattle.asset_records.proofs.LayerLemmas.{writes_more, add_over_writes}
use Rattle.asset_records.proofs.layers.mark_over_writes.Goals as goal

pub returns-in-Wrote : goal.returns-in-Wrote
unfolding fits record_of is_write
returns-in-Wrote c = λ records owner writes. writes_more records (record_of owner c.args.change) writes (ap (λ (change : Change). is_write (record_of owner change)) c.in-Wrote.is)

pub returns-in-Added : goal.returns-in-Added
unfolding fits record_of is_write
returns-in-Added c = λ records owner writes. add_over_writes records (record_of owner c.args.change) writes (ap (λ (change : Change). is_write (record_of owner change)) c.in-Added.is)
