use Rattle.std.proofs.Common.{◌≡◌, ℕ, ◌+◌, ◌<◌, length, List, refl, ap, subst, ◌∙◌, arith}
use Rattle.asset_names.specs.declared.names.Txn.{Txn}
use Rattle.asset_names.proofs.Common.{always_err}
use Rattle.asset_chains.specs.Chained.{Chained, home_of, pushed}
use Rattle.asset_chains.proofs.Laws.{key_more-home, key_more-keys, key_more-chains}
use Rattle.asset_seats.specs.Bucketed.{AreBucketed}
use Rattle.asset_seats.proofs.GrowLemmas.{home_past, seats_same, rest_same, names_valid, added_keys, added_valid, added_taken, added_last}
use Rattle.asset_seats.proofs.SeatLemmas.{vacant_of, room_of, many_at, many_are}
use Rattle.asset_seats.proofs.seats.Seats.add_seat.Goals as goal

pub returns-in_err-widen-clause-unchanged : goal.returns-in_err-widen-clause-unchanged
returns-in_err-widen-clause-unchanged c =
    always_err c.from_residual.result
    (rest_same c.self.inside.names.items c.self.inside.names.items c.self.inside.chains c.widen.new.chains c.args.self.now c.self.view_is c.widen.ensures.free c.widen.ensures.keys)

pub returns-in_err-widen-clause-seats : goal.returns-in_err-widen-clause-seats
returns-in_err-widen-clause-seats c =
    seats_same c.self.inside.names.items c.self.inside.names.items c.self.inside.chains c.widen.new.chains c.args.self.now c.self.view_is c.widen.ensures.seats (λ k. refl)

pub returns-in_err-add_name-clause-unchanged : goal.returns-in_err-add_name-clause-unchanged
returns-in_err-add_name-clause-unchanged c =
    always_err c.from_residual-in_err-add_name.result
    (rest_same c.self.inside.names.items c.add_name.new.names.items c.self.inside.chains c.widen.new.chains c.args.self.now c.self.view_is c.widen.ensures.free c.widen.ensures.keys)

pub returns-in_err-add_name-clause-seats : goal.returns-in_err-add_name-clause-seats
returns-in_err-add_name-clause-seats c =
    seats_same c.self.inside.names.items c.add_name.new.names.items c.self.inside.chains c.widen.new.chains c.args.self.now c.self.view_is c.widen.ensures.seats c.add_name.ensures.names

pub returns-in-Err-clause-unchanged : goal.returns-in-Err-clause-unchanged
returns-in-Err-clause-unchanged c =
    rw c.in-Err.ensures.unchanged
    (rest_same c.self.inside.names.items c.add_name.new.names.items c.self.inside.chains c.widen.new.chains c.args.self.now c.self.view_is c.widen.ensures.free c.widen.ensures.keys)

pub returns-in-Err-clause-seats : goal.returns-in-Err-clause-seats
returns-in-Err-clause-seats c =
    rw c.in-Err.ensures.unchanged
    (seats_same c.self.inside.names.items c.add_name.new.names.items c.self.inside.chains c.widen.new.chains c.args.self.now c.self.view_is c.widen.ensures.seats c.add_name.ensures.names)

pub push-requires-clause-chain : goal.push-requires-clause-chain
push-requires-clause-chain c =
    let chains = ap (λ (t : Chained). length t.chains) c.in-Ok.ensures.added ∙ ap length (key_more-chains c.widen.new.chains) in
    omega (arith, chains, c.widen.ensures.seated.within, c.in_ok-widen.ensures.ready)

pub push-requires-clause-key : goal.push-requires-clause-key
push-requires-clause-key c =
    let keys = ap (λ (t : Chained). length t.homes) c.in-Ok.ensures.added ∙ key_more-keys c.widen.new.chains in
    omega (arith, keys, c.keys-key.ensures)

pub push-requires-clause-free : goal.push-requires-clause-free
push-requires-clause-free c =
    ap (λ (t : Chained). home_of t c.keys-key.result) c.in-Ok.ensures.added ∙ key_more-home c.widen.new.chains c.keys-key.result ∙ home_past c.widen.new.chains c.keys-key.result (omega (arith, c.keys-key.ensures))

pub invariant_of-self-2 : goal.invariant_of-self-2
invariant_of-self-2 c =
    let valid : AreBucketed c.self.inside.names.items c.widen.new.chains c.widen.new.buckets = subst (λ (l : List Txn). AreBucketed l c.widen.new.chains c.widen.new.buckets) c.deref.ensures.value c.widen.ensures.seated in
    let named = names_valid c.self.inside.names.items c.add_name.new.names.items c.widen.new.chains c.widen.new.buckets valid c.add_name.ensures.names c.add_name.ensures.more in
    let place : length c.widen.new.chains.homes < length c.add_name.new.names.items = omega (arith, c.in_ok-add_name.ensures.there, c.keys-key.ensures) in
    let push : c.push.new.self ≡ pushed 0 (length c.widen.new.chains.homes) c.add_key.new.self = c.push.ensures ∙ ap (λ (k : ℕ). pushed 0 k c.add_key.new.self) c.keys-key.ensures in
    added_valid c.add_name.new.names.items c.widen.new.chains c.add_key.new.self c.push.new.self c.widen.new.buckets named c.in_ok-widen.ensures.ready place c.in-Ok.ensures.added push

pub returns-clause-added : goal.returns-clause-added
returns-clause-added c =
    let valid : AreBucketed c.self.inside.names.items c.widen.new.chains c.widen.new.buckets = subst (λ (l : List Txn). AreBucketed l c.widen.new.chains c.widen.new.buckets) c.deref.ensures.value c.widen.ensures.seated in
    let named = names_valid c.self.inside.names.items c.add_name.new.names.items c.widen.new.chains c.widen.new.buckets valid c.add_name.ensures.names c.add_name.ensures.more in
    let place : length c.widen.new.chains.homes < length c.add_name.new.names.items = omega (arith, c.in_ok-add_name.ensures.there, c.keys-key.ensures) in
    let push : c.push.new.self ≡ pushed 0 (length c.widen.new.chains.homes) c.add_key.new.self = c.push.ensures ∙ ap (λ (k : ℕ). pushed 0 k c.add_key.new.self) c.keys-key.ensures in
    let many = many_are c.self.inside.names.items c.self.inside.chains c.args.self.now c.self.view_is in
    let last = added_last c.add_name.new.names.items c.widen.new.chains c.add_key.new.self c.push.new.self c.widen.new.buckets named c.in_ok-widen.ensures.ready place c.in-Ok.ensures.added push in
    let here : length c.widen.new.chains.homes ≡ length c.args.self.now.slots = omega (arith, many, c.widen.ensures.keys) in (
      many_at c.add_name.new.names.items c.push.new.self ∙ added_keys c.add_name.new.names.items c.widen.new.chains c.add_key.new.self c.push.new.self c.widen.new.buckets named c.in_ok-widen.ensures.ready place c.in-Ok.ensures.added push ∙ ap (λ (n : ℕ). n + 1) here,
      vacant_of c.add_name.new.names.items c.push.new.self (length c.widen.new.chains.homes) last ∙ here,
      room_of c.add_name.new.names.items c.push.new.self (length c.widen.new.chains.homes) last,
    )

pub returns-clause-seats : goal.returns-clause-seats
returns-clause-seats c =
    let valid : AreBucketed c.self.inside.names.items c.widen.new.chains c.widen.new.buckets = subst (λ (l : List Txn). AreBucketed l c.widen.new.chains c.widen.new.buckets) c.deref.ensures.value c.widen.ensures.seated in
    let named = names_valid c.self.inside.names.items c.add_name.new.names.items c.widen.new.chains c.widen.new.buckets valid c.add_name.ensures.names c.add_name.ensures.more in
    let place : length c.widen.new.chains.homes < length c.add_name.new.names.items = omega (arith, c.in_ok-add_name.ensures.there, c.keys-key.ensures) in
    let push : c.push.new.self ≡ pushed 0 (length c.widen.new.chains.homes) c.add_key.new.self = c.push.ensures ∙ ap (λ (k : ℕ). pushed 0 k c.add_key.new.self) c.keys-key.ensures in
    seats_same c.self.inside.names.items c.add_name.new.names.items c.self.inside.chains c.push.new.self c.args.self.now c.self.view_is
    (λ k t. added_taken c.add_name.new.names.items c.widen.new.chains c.add_key.new.self c.push.new.self c.widen.new.buckets named c.in_ok-widen.ensures.ready place c.in-Ok.ensures.added push k t ∙ c.widen.ensures.seats k t) c.add_name.ensures.names
