use Rattle.std.proofs.Common.{is_some, sym, ap, ◌∙◌, arith}
use Rattle.std.proofs.lemmas.Bool.{true≢false}
use Rattle.asset_chains.proofs.Laws.{pushes}
use Rattle.asset_locks.specs.LockTable.{LockTable, enrolled_in}
use Rattle.asset_locks.specs.Tied.{LockParts, rows_in}
use Rattle.asset_locks.proofs.TableLemmas.{enrolled_at, not_enrolled, not_in_order, home_if_some, out_if_none, enrolled_now, seated_more, enrols, tied_inside}
use Rattle.asset_locks.proofs.table.SeatedLocks.enrol.Goals as goal

pub returns-then-is_some-clause-enrolled : goal.returns-then-is_some-clause-enrolled
returns-then-is_some-clause-enrolled c =
    let inside = c.self.inside in
    let seats = c.args.seats.now in
    let t = c.args.t in
    let tied = tied_inside inside.pending.items inside.order inside.store c.args.self.now seats c.self.view_is c.requires.tied in
    let home = home_if_some seats inside.pending.items inside.order inside.store tied c.laws-2.ensures.sound t.at (ap is_some (sym c.home.ensures) ∙ sym c.is_some.ensures ∙ c.if-is_some.true) in
    rw (← c.self.view_is) (ap is_some (enrolled_at seats inside.pending.items inside.order inside.store tied c.laws-2.ensures.sound t.at t.t c.requires.sits home))

pub returns-then-is_some-clause-done : goal.returns-then-is_some-clause-done
returns-then-is_some-clause-done c = λ none. absurd (true≢false (sym (returns-then-is_some-clause-enrolled c) ∙ ap is_some none))

pub index_mut-requires : goal.index_mut-requires
index_mut-requires c =
    let inside = c.self.inside in
    let tied = tied_inside inside.pending.items inside.order inside.store c.args.self.now c.args.seats.now c.self.view_is c.requires.tied in
    omega (arith, (tied.places c.args.t.at c.args.t.t c.requires.sits).request)

pub push-requires-clause-chain : goal.push-requires-clause-chain
push-requires-clause-chain c =
    let inside = c.self.inside in
    let tied = tied_inside inside.pending.items inside.order inside.store c.args.self.now c.args.seats.now c.self.view_is c.requires.tied in
    (tied.places c.args.t.at c.args.t.t c.requires.sits).chain

pub push-requires-clause-key : goal.push-requires-clause-key
push-requires-clause-key c =
    let inside = c.self.inside in
    let tied = tied_inside inside.pending.items inside.order inside.store c.args.self.now c.args.seats.now c.self.view_is c.requires.tied in
    (tied.places c.args.t.at c.args.t.t c.requires.sits).key

pub push-requires-clause-free : goal.push-requires-clause-free
push-requires-clause-free c = out_if_none c.self.inside.order c.args.t.at (ap is_some (sym c.home.ensures) ∙ sym c.is_some.ensures ∙ c.if-is_some.false)

pub returns-clause-tied : goal.returns-clause-tied
returns-clause-tied c =
    let inside = c.self.inside in
    let seats = c.args.seats.now in
    let t = c.args.t in
    let tied = tied_inside inside.pending.items inside.order inside.store c.args.self.now seats c.self.view_is c.requires.tied in
    let out = out_if_none inside.order t.at (ap is_some (sym c.home.ensures) ∙ sym c.is_some.ensures ∙ c.if-is_some.false) in
    let places = tied.places t.at t.t c.requires.sits in
    seated_more seats inside.pending.items inside.order inside.store tied c.laws-2.ensures.sound t.at t.t c.requires.sits out c.push.new.self (pushes 0 t.at inside.order c.push.new.self places.chain places.key c.push.ensures)

pub returns-clause-done : goal.returns-clause-done
returns-clause-done c = λ _.
    let inside = c.self.inside in
    let seats = c.args.seats.now in
    let t = c.args.t in
    let tied = tied_inside inside.pending.items inside.order inside.store c.args.self.now seats c.self.view_is c.requires.tied in
    let out = out_if_none inside.order t.at (ap is_some (sym c.home.ensures) ∙ sym c.is_some.ensures ∙ c.if-is_some.false) in
    let places = tied.places t.at t.t c.requires.sits in
    rw (← c.self.view_is) (enrols seats inside.pending.items inside.order inside.store tied c.laws-2.ensures.sound t.at t.t c.requires.sits out c.push.new.self (pushes 0 t.at inside.order c.push.new.self places.chain places.key c.push.ensures) c.laws-3.ensures.owners)

pub returns-clause-again : goal.returns-clause-again
returns-clause-again c = λ there.
    let inside = c.self.inside in
    let seats = c.args.seats.now in
    let t = c.args.t in
    let tied = tied_inside inside.pending.items inside.order inside.store c.args.self.now seats c.self.view_is c.requires.tied in
    let out = out_if_none inside.order t.at (ap is_some (sym c.home.ensures) ∙ sym c.is_some.ensures ∙ c.if-is_some.false) in
    let none = not_enrolled seats inside.pending.items inside.order inside.store tied c.laws-2.ensures.sound t.t (not_in_order seats inside.pending.items inside.order inside.store tied c.laws-2.ensures.sound t.at t.t c.requires.sits out) in
    absurd (true≢false (sym there ∙ ap (λ (v : LockParts). is_some (enrolled_in (rows_in seats v) t.t.0)) (sym c.self.view_is) ∙ ap is_some none))

pub returns-clause-enrolled : goal.returns-clause-enrolled
returns-clause-enrolled c =
    let inside = c.self.inside in
    let seats = c.args.seats.now in
    let t = c.args.t in
    let tied = tied_inside inside.pending.items inside.order inside.store c.args.self.now seats c.self.view_is c.requires.tied in
    let out = out_if_none inside.order t.at (ap is_some (sym c.home.ensures) ∙ sym c.is_some.ensures ∙ c.if-is_some.false) in
    let places = tied.places t.at t.t c.requires.sits in
    ap (λ (table : LockTable). is_some (enrolled_in table t.t.0)) (enrols seats inside.pending.items inside.order inside.store tied c.laws-2.ensures.sound t.at t.t c.requires.sits out c.push.new.self (pushes 0 t.at inside.order c.push.new.self places.chain places.key c.push.ensures) c.laws-3.ensures.owners)
    ∙ enrolled_now t.t.0 _
