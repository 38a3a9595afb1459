use Rattle.std.proofs.Common.{subst}
use Rattle.asset_locks.specs.Valid.{IsValid}
use Rattle.asset_locks.specs.Tied.{LockParts, rows_in}
use Rattle.asset_locks.proofs.TableLemmas.{rows_valid, tied_inside}
use Rattle.asset_locks.proofs.table.SeatedLocks.laws.Goals as goal

pub returns-clause-valid : goal.returns-clause-valid
returns-clause-valid c =
    let inside = c.self.inside in
    let seats = c.args.seats.now in
    let tied = tied_inside inside.pending.items inside.order inside.store c.args.self.now seats c.self.view_is c.requires in
    subst (λ (table : LockParts). IsValid (rows_in seats table)) c.self.view_is (rows_valid seats inside.pending.items inside.order inside.store tied c.laws.ensures.sound c.laws-2.ensures.stored c.laws-2.ensures.owners)
