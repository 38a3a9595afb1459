use Rattle.std.proofs.Common.{subst, sym}
use Rattle.asset_chains.specs.Crossed.{Crossed}
use Rattle.asset_records.specs.declared.records.Record.{Record}
use Rattle.asset_records.specs.Listed.{IsTied}
use Rattle.asset_records.proofs.BackLemmas.{leaves_tied}
use Rattle.asset_records.proofs.records.Records.may_leave.Goals as goal

pub returns : goal.returns
returns c =
    let records = c.self.inside.records in
    let seats = c.args.seats.now in
    let tied = subst (λ (r : Crossed Record). IsTied r seats) (sym c.self.view_is) c.requires.tied in
    rw (← c.self.view_is) (record { left = λ none left leaves. leaves_tied records seats left c.args.t tied c.laws-2.ensures.crossed c.requires.sits none leaves })
