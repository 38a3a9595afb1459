use Rattle.std.proofs.Common.{arith}
use Rattle.asset_chains.specs.declared.side.Side.TheVariants.{Row, Column}
use Rattle.asset_records.proofs.DropLemmas.{dropped_tied, record_is, home_is}
use Rattle.asset_records.proofs.dropping.drop_at.Goals as goal

pub returns-clause-tied : goal.returns-clause-tied
returns-clause-tied c = dropped_tied c.args.records.now c.remove.new.self c.args.key c.remove.ensures.items c.remove.ensures.lines

pub returns-clause-records : goal.returns-clause-records
returns-clause-records c = record_is c.args.records.now c.remove.new.self c.args.key c.remove.ensures.items c.remove.ensures.lines

pub returns-clause-chains : goal.returns-clause-chains
returns-clause-chains c = (c.remove.ensures.lines Row).chains

pub returns-clause-homes : goal.returns-clause-homes
returns-clause-homes c = home_is c.args.records.now c.remove.new.self c.args.key c.remove.ensures.items c.remove.ensures.lines Row

pub returns-clause-many : goal.returns-clause-many
returns-clause-many c = (c.remove.ensures.lines Row).many

pub returns-clause-few : goal.returns-clause-few
returns-clause-few c = record { items = omega (arith, c.remove.ensures.len); columns = omega (arith, (c.remove.ensures.lines Column).many) }
