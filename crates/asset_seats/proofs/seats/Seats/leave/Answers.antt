use Rattle.std.proofs.Common.{◌≡◌, ℕ, ◌<◌, length, Option, Some, None, is_some, sym, ap, ◌∙◌, arith}
use Rattle.std.proofs.lemmas.Bool.{true≢false}
use Rattle.asset_chains.specs.Chained.{home_of}
use Rattle.asset_chains.proofs.Laws.{key_within}
use Rattle.asset_seats.specs.Bucketed.{taken, name_in}
use Rattle.asset_seats.specs.Seated.{seat}
use Rattle.asset_seats.proofs.SeatLemmas.{seat_is, many_at, many_are, named_at, vacant_of, room_of, leaves_chain}
use Rattle.asset_seats.proofs.MoveLemmas.{leaves_valid, leaves_seats, leaves_nothing}
use Rattle.asset_seats.proofs.seats.Seats.leave.Goals as goal

pub move_to-requires-clause-key : goal.move_to-requires-clause-key
move_to-requires-clause-key c = key_within c.args.c c.in-Some.chain c.self.inside.chains (sym c.in-Some.ensures)

pub move_to-requires-clause-chain : goal.move_to-requires-clause-chain
move_to-requires-clause-chain c =
    let within : c.args.c < length c.self.inside.chains.homes = key_within c.args.c c.in-Some.chain c.self.inside.chains (sym c.in-Some.ensures) in
    let some = c.self.invariant.ready (omega (arith, within)) in
    omega (arith, some, c.self.invariant.within)

pub invariant_of-self : goal.invariant_of-self
invariant_of-self c =
    leaves_valid c.self.inside.names.items c.self.inside.chains c.move_to.new.chains c.self.inside.buckets c.args.c c.self.invariant c.move_to.ensures.home c.move_to.ensures.homes c.move_to.ensures.sizes.0 c.move_to.ensures.sizes.1

pub returns-then-chain-gt0-clause-seats : goal.returns-then-chain-gt0-clause-seats
returns-then-chain-gt0-clause-seats c =
    leaves_seats c.self.inside.names.items c.self.inside.chains c.move_to.new.chains c.self.inside.buckets c.args.c c.self.invariant c.move_to.ensures.home c.move_to.ensures.homes c.move_to.ensures.sizes.0 c.move_to.ensures.sizes.1
    c.args.self.now c.self.view_is

pub returns-then-chain-gt0-clause-vacant : goal.returns-then-chain-gt0-clause-vacant
returns-then-chain-gt0-clause-vacant c = λ sat. vacant_of c.self.inside.names.items c.move_to.new.chains c.args.c (leaves_chain c.self.inside.chains c.move_to.new.chains c.args.c c.in-Some.chain (sym c.in-Some.ensures) c.if-chain-gt0.true c.move_to.ensures.last)

pub returns-then-chain-gt0-clause-unchanged : goal.returns-then-chain-gt0-clause-unchanged
returns-then-chain-gt0-clause-unchanged c = λ none.
    let sat = named_at (home_of c.self.inside.chains c.args.c) c.in-Some.chain (name_in c.self.inside.names.items c.args.c) (sym c.in-Some.ensures) (λ zero. omega (arith, zero, c.if-chain-gt0.true)) in
    let wrong : None ≡ Some (name_in c.self.inside.names.items c.args.c) = sym none ∙ seat_is c.self.inside.names.items c.self.inside.chains c.args.self.now c.args.c c.self.view_is ∙ sat in
    absurd (cc wrong)

pub returns-then-chain-gt0-clause-room : goal.returns-then-chain-gt0-clause-room
returns-then-chain-gt0-clause-room c = λ room. room_of c.self.inside.names.items c.move_to.new.chains c.args.c (leaves_chain c.self.inside.chains c.move_to.new.chains c.args.c c.in-Some.chain (sym c.in-Some.ensures) c.if-chain-gt0.true c.move_to.ensures.last)

pub returns-then-chain-gt0-clause-free : goal.returns-then-chain-gt0-clause-free
returns-then-chain-gt0-clause-free c = λ sat. room_of c.self.inside.names.items c.move_to.new.chains c.args.c (leaves_chain c.self.inside.chains c.move_to.new.chains c.args.c c.in-Some.chain (sym c.in-Some.ensures) c.if-chain-gt0.true c.move_to.ensures.last)

pub returns-then-chain-gt0-clause-many : goal.returns-then-chain-gt0-clause-many
returns-then-chain-gt0-clause-many c = many_at c.self.inside.names.items c.move_to.new.chains ∙ c.move_to.ensures.sizes.0 ∙ sym (many_are c.self.inside.names.items c.self.inside.chains c.args.self.now c.self.view_is)

none-else : (c : goal.Else-chain-gt0) → seat c.args.self.now c.args.c ≡ None
none-else c =
    let free : home_of c.self.inside.chains c.args.c ≡ Some 0 = sym c.in-Some.ensures ∙ ap (λ (n : ℕ). Some n) (omega (arith, c.if-chain-gt0.false)) in
    seat_is c.self.inside.names.items c.self.inside.chains c.args.self.now c.args.c c.self.view_is ∙ ap (λ (o : Option ℕ). taken o (name_in c.self.inside.names.items c.args.c)) free

pub returns-else-chain-gt0-clause-seats : goal.returns-else-chain-gt0-clause-seats
returns-else-chain-gt0-clause-seats c = leaves_nothing c.args.self.now c.args.c (none-else c)

pub returns-else-chain-gt0-clause-vacant : goal.returns-else-chain-gt0-clause-vacant
returns-else-chain-gt0-clause-vacant c = λ sat. absurd (true≢false (sym sat ∙ ap is_some (none-else c)))

pub returns-else-chain-gt0-clause-free : goal.returns-else-chain-gt0-clause-free
returns-else-chain-gt0-clause-free c = λ sat. absurd (true≢false (sym sat ∙ ap is_some (none-else c)))

none-past : (c : goal.In_default) → seat c.args.self.now c.args.c ≡ None
none-past c = seat_is c.self.inside.names.items c.self.inside.chains c.args.self.now c.args.c c.self.view_is ∙ ap (λ (o : Option ℕ). taken o (name_in c.self.inside.names.items c.args.c)) (sym c.home.ensures ∙ c.in_default.is)

pub returns-in_default-clause-seats : goal.returns-in_default-clause-seats
returns-in_default-clause-seats c = leaves_nothing c.args.self.now c.args.c (none-past c)

pub returns-in_default-clause-vacant : goal.returns-in_default-clause-vacant
returns-in_default-clause-vacant c = λ sat. absurd (true≢false (sym sat ∙ ap is_some (none-past c)))

pub returns-in_default-clause-free : goal.returns-in_default-clause-free
returns-in_default-clause-free c = λ sat. absurd (true≢false (sym sat ∙ ap is_some (none-past c)))
