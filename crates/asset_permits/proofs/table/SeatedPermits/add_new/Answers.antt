use Rattle.asset_permits.specs.Valid.{permits_in}
use Rattle.asset_permits.proofs.CopyLemmas.{noted_adds}
use Rattle.asset_permits.proofs.table.SeatedPermits.add_new.Goals as goal

pub returns-clause-added : goal.returns-clause-added
returns-clause-added c =
    let noted = c.add_noted in
    noted_adds noted.result c.args.receiver.t.0 c.args.cut.now c.args.added.now.items noted.new.added.items (permits_in c.args.self.now) (permits_in noted.new.self)
    (rw c.sought_by-sought.ensures.asked at noted.ensures.stands) (rw c.sought_by-sought.ensures.asked at noted.ensures.again) (rw c.sought_by-sought.ensures.asked at noted.ensures.noted)
