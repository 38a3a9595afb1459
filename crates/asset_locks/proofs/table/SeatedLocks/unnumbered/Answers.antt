use Rattle.std.proofs.Common.{ap, ◌∙◌}
use Rattle.asset_names.specs.Numbered.{number_in}
use Rattle.asset_locks.specs.Tied.{LockParts}
use Rattle.asset_lock_store.proofs.BlockLemmas.{free_unnumbered}
use Rattle.asset_locks.proofs.TableLemmas.{is_free_by, none_without_number, tied_inside}
use Rattle.asset_locks.proofs.table.SeatedLocks.unnumbered.Goals as goal

pub returns-clause-free : goal.returns-clause-free
returns-clause-free c = λ none allows t op.
    let inside = c.self.inside in
    let seats = c.args.seats.now in
    let tied = tied_inside inside.pending.items inside.order inside.store c.args.self.now seats c.self.view_is c.requires in
    let without = ap (λ (v : LockParts). number_in v.store.objects c.args.x.0) c.self.view_is ∙ none in
    rw (← c.self.view_is)
    (is_free_by seats inside.pending.items inside.order inside.store tied c.laws.ensures.sound allows t c.args.x.0 op
    (λ d u sits. free_unnumbered inside.store c.laws-2.ensures.stored c.laws-2.ensures.owners seats allows t c.args.x.0 op without d u sits))

pub returns-clause-none : goal.returns-clause-none
returns-clause-none c = λ none t.
    let inside = c.self.inside in
    let seats = c.args.seats.now in
    let tied = tied_inside inside.pending.items inside.order inside.store c.args.self.now seats c.self.view_is c.requires in
    let without = ap (λ (v : LockParts). number_in v.store.objects c.args.x.0) c.self.view_is ∙ none in
    rw (← c.self.view_is)
    (none_without_number seats inside.pending.items inside.order inside.store tied c.laws.ensures.sound c.laws-2.ensures.stored c.laws-2.ensures.owners t c.args.x.0 without)
