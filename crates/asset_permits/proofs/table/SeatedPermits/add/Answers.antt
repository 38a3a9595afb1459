use Rattle.std.proofs.Common.{rules}
use Rattle.asset_permits.specs.Valid.{permits_in}
use Rattle.asset_permits.proofs.DescriptorLemmas.{covers_by, opens_still}
use Rattle.asset_permits.proofs.table.SeatedPermits.add.Goals as goal

pub returns-clause-stands : goal.returns-clause-stands
returns-clause-stands c = search rules

pub returns-clause-covers : goal.returns-clause-covers
returns-clause-covers c =
    search (rules, covers_by c.add_permit.result (permits_in c.args.self.now) (permits_in c.add_permit.new.self) c.args.giver.t.0 c.args.taker.t.0 c.args.objects c.args.ops)

pub returns-clause-opens : goal.returns-clause-opens
returns-clause-opens c =
    search (rules, opens_still c.add_permit.result (permits_in c.args.self.now) (permits_in c.add_permit.new.self) c.args.giver.t.0 c.args.taker.t.0 c.args.objects c.args.ops)
