use Rattle.std.proofs.Common.{rules}
use Rattle.asset_names.specs.declared.sets.ObSet.TheVariants.{Listed}
use Rattle.asset_permits.specs.Valid.{permits_in}
use Rattle.asset_permits.proofs.DescriptorLemmas.{covers_still, opens_more}
use Rattle.asset_permits.proofs.table.SeatedPermits.add_any.Goals as goal

pub returns-clause-stands : goal.returns-clause-stands
returns-clause-stands c = search rules

pub returns-clause-covers : goal.returns-clause-covers
returns-clause-covers c =
    search (rules, covers_still c.add_permit.result (permits_in c.args.self.now) (permits_in c.add_permit.new.self) c.args.giver.t.0 (Listed c.args.objects) c.args.ops)

pub returns-clause-opens : goal.returns-clause-opens
returns-clause-opens c =
    search (rules, opens_more c.add_permit.result (permits_in c.args.self.now) (permits_in c.add_permit.new.self) c.args.giver.t.0 (Listed c.args.objects) c.args.ops)
