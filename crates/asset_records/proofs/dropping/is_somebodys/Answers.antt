use Rattle.std.proofs.Common.{true, sym, ap, ◌∙◌}
use Rattle.asset_records.specs.declared.records.Record.{Record}
use Rattle.std.specs.Prelude.{Option, unwrap_or}
use Rattle.asset_records.specs.Listed.{record_at, is_owned, owner_of, no_record}
use Rattle.asset_records.proofs.DropLemmas.{read_some}
use Rattle.asset_records.proofs.dropping.is_somebodys.Goals as goal

pub returns-in-Some : goal.returns-in-Some
returns-in-Some c = c.is_somebodys.ensures ∙ sym (ap (is_owned (λ n. true)) (read_some c.args.records.now.items c.args.key c.in-Some.one.now (sym c.in-Some.ensures)))

pub returns-in-None : goal.returns-in-None
unfolding record_at is_owned owner_of no_record
returns-in-None c = sym (ap (λ (o : Option Record). is_owned (λ n. true) (unwrap_or o no_record)) (sym c.in-None.ensures))
