use Rattle.std.proofs.Common.{◌≡◌, ℕ, ◌<◌, length, Option, Some, sym, ap, ◌∙◌, arith}
use Rattle.asset_names.specs.declared.names.Txn.{Txn}
use Rattle.asset_chains.specs.Chained.{home_of}
use Rattle.asset_chains.proofs.Laws.{key_within}
use Rattle.asset_seats.specs.Bucketed.{taken, name_in, no_name}
use Rattle.asset_seats.proofs.SeatLemmas.{seat_is, named_at, read_within}
use Rattle.asset_seats.proofs.seats.Seats.name_at.Goals as goal

pub returns-in_err-home : goal.returns-in_err-home
returns-in_err-home c =
    c.from_residual.ensures
    ∙ sym (seat_is c.self.inside.names.items c.self.inside.chains c.args.self.now c.args.c c.self.view_is ∙ ap (λ (o : Option ℕ). taken o (name_in c.self.inside.names.items c.args.c)) (sym c.in_err-home.ensures))

pub index-requires : goal.index-requires
index-requires c =
    let within : c.args.c < length c.self.inside.chains.homes = key_within c.args.c c.in_ok-home.field-0 c.self.inside.chains (sym c.in_ok-home.ensures) in
    omega (arith, within, c.self.invariant.named)

pub returns-then-branch-eq0 : goal.returns-then-branch-eq0
returns-then-branch-eq0 c =
    sym (seat_is c.self.inside.names.items c.self.inside.chains c.args.self.now c.args.c c.self.view_is ∙ ap (λ (o : Option ℕ). taken o (name_in c.self.inside.names.items c.args.c)) (sym c.in_ok-home.ensures ∙ ap (λ (n : ℕ). Some n) c.if-branch-eq0.true))

pub returns-else-branch-eq0 : goal.returns-else-branch-eq0
unfolding name_in no_name
returns-else-branch-eq0 c =
    let within : c.args.c < length c.self.inside.chains.homes = key_within c.args.c c.in_ok-home.field-0 c.self.inside.chains (sym c.in_ok-home.ensures) in
    let stored : c.index.result.now ≡ name_in c.self.inside.names.items c.args.c = c.index.ensures ∙ read_within c.self.inside.names.items c.args.c c.index.result.now no_name (omega (arith, within, c.self.invariant.named)) in
    ap (λ (t : Txn). Some t) stored ∙ sym (seat_is c.self.inside.names.items c.self.inside.chains c.args.self.now c.args.c c.self.view_is
    ∙ named_at (home_of c.self.inside.chains c.args.c) c.in_ok-home.field-0 (name_in c.self.inside.names.items c.args.c) (sym c.in_ok-home.ensures) c.if-branch-eq0.false)
