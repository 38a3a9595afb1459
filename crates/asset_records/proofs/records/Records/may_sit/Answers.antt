use Rattle.std.proofs.Common.{subst, sym}
use Rattle.asset_chains.specs.Crossed.{Crossed}
use Rattle.asset_records.specs.declared.records.Record.{Record}
use Rattle.asset_records.specs.Listed.{IsTied}
use Rattle.asset_records.proofs.BackLemmas.{sits_tied}
use Rattle.asset_records.proofs.records.Records.may_sit.Goals as goal

pub returns : goal.returns
returns c =
    let records = c.self.inside.records in
    let seats = c.args.seats.now in
    let tied = subst (λ (r : Crossed Record). IsTied r seats) (sym c.self.view_is) c.requires in
    rw (← c.self.view_is) (record { sits = λ given at t free room sits. sits_tied records seats given at t tied c.laws.ensures.crossed free room sits })
