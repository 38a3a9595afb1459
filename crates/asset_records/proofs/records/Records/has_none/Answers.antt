use Rattle.std.proofs.Common.{suc, sym, ap, subst, ◌∙◌}
use Rattle.asset_chains.specs.Chained.{chain_of, first_of}
use Rattle.asset_chains.specs.Crossed.{Crossed}
use Rattle.asset_records.specs.declared.records.Record.{Record}
use Rattle.asset_records.specs.Listed.{IsTied}
use Rattle.asset_records.proofs.BackLemmas.{no_record_of, no_first}
use Rattle.asset_records.proofs.records.Records.has_none.Goals as goal

pub returns : goal.returns
returns c =
    let records = c.self.inside.records in
    let seats = c.args.seats.now in
    let tied = subst (λ (r : Crossed Record). IsTied r seats) (sym c.self.view_is) c.requires.tied in
    rw (← c.self.view_is)
    (no_record_of records seats c.args.t tied c.laws.ensures.crossed
    (λ d sat. no_first (chain_of records.columns (suc d)) (ap (λ (r : Crossed Record). first_of (chain_of r.columns (suc d))) c.self.view_is ∙ c.requires.none d sat)))
