use Rattle.asset_locks.specs.Tied.{LockParts}
use Rattle.asset_locks.proofs.TableLemmas.{enrolled_or_not, goes_out, gone_out, releases, seated_less, tied_inside}
use Rattle.asset_locks.proofs.SeatLemmas.{tied_left, shows_left}
use Rattle.asset_locks.proofs.table.SeatedLocks.release.Goals as goal

pub unlink-requires : goal.unlink-requires
unlink-requires c =
    let inside = c.self.inside in
    let tied = tied_inside inside.pending.items inside.order inside.store c.args.self.now c.args.seats.now c.self.view_is c.requires.tied in
    (tied.places c.args.t.at c.args.t.t c.requires.sits).key

pub returns-clause-tied : goal.returns-clause-tied
returns-clause-tied c =
    let inside = c.self.inside in
    let seats = c.args.seats.now in
    let t = c.args.t in
    let tied = tied_inside inside.pending.items inside.order inside.store c.args.self.now seats c.self.view_is c.requires.tied in
    let out = goes_out inside.order c.unlink.new.self t.at c.laws.ensures.sound (enrolled_or_not seats inside.pending.items inside.order inside.store tied c.laws.ensures.sound t.at) c.unlink.ensures in
    seated_less seats inside.pending.items inside.order inside.store tied c.laws.ensures.sound t.at t.t c.requires.sits c.unlink.new.self c.release.new.self out.homes out.chains out.keys c.release.ensures.seats c.release.ensures.holders

pub returns-clause-leaves : goal.returns-clause-leaves
returns-clause-leaves c = λ left leaves.
    let inside = c.self.inside in
    let seats = c.args.seats.now in
    let t = c.args.t in
    let tied = tied_inside inside.pending.items inside.order inside.store c.args.self.now seats c.self.view_is c.requires.tied in
    let out = goes_out inside.order c.unlink.new.self t.at c.laws.ensures.sound (enrolled_or_not seats inside.pending.items inside.order inside.store tied c.laws.ensures.sound t.at) c.unlink.ensures in
    let gone = gone_out inside.order c.unlink.new.self t.at out in
    let after : LockParts = record { pending = inside.pending.items; order = c.unlink.new.self; store = c.release.new.self } in
    (tied_left after seats left t.at gone leaves (returns-clause-tied c), shows_left after seats left t.at gone leaves c.laws-2.ensures.sound)

pub returns-clause-released : goal.returns-clause-released
returns-clause-released c =
    let inside = c.self.inside in
    let seats = c.args.seats.now in
    let t = c.args.t in
    let tied = tied_inside inside.pending.items inside.order inside.store c.args.self.now seats c.self.view_is c.requires.tied in
    let out = goes_out inside.order c.unlink.new.self t.at c.laws.ensures.sound (enrolled_or_not seats inside.pending.items inside.order inside.store tied c.laws.ensures.sound t.at) c.unlink.ensures in
    rw (← c.self.view_is) (releases seats inside.pending.items inside.order inside.store tied c.laws.ensures.sound t.at t.t c.requires.sits c.unlink.new.self c.release.new.self out.chain c.release.ensures.others)
