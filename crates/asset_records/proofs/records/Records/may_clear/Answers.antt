use Rattle.std.proofs.Common.{subst, sym}
use Rattle.asset_chains.specs.Crossed.{Crossed}
use Rattle.asset_records.specs.declared.records.Record.{Record}
use Rattle.asset_records.specs.Listed.{IsTied}
use Rattle.asset_records.proofs.ColumnLemmas.{clears_tied}
use Rattle.asset_records.proofs.records.Records.may_clear.Goals as goal

pub returns : goal.returns
returns c =
    let records = c.self.inside.records in
    let seats = c.args.seats.now in
    let tied = subst (λ (r : Crossed Record). IsTied r seats) (sym c.self.view_is) c.requires in
    rw (← c.self.view_is) (record { left = λ left at empty leaves. clears_tied records seats left at tied c.laws.ensures.crossed empty leaves })
