use Rattle.std.proofs.Common.{ℕ, Option, length, sym, ap, ◌∙◌}
use Rattle.std.specs.Prelude.{unwrap_or}
use Rattle.asset_seats.proofs.SeatLemmas.{vacant_is}
use Rattle.asset_seats.proofs.seats.Seats.vacant.Goals as goal

pub returns-in-Some : goal.returns-in-Some
returns-in-Some c = sym (vacant_is c.self.inside.names.items c.self.inside.chains c.args.self.now c.self.view_is ∙ ap (λ (o : Option ℕ). unwrap_or o (length c.self.inside.chains.homes)) (sym c.last.ensures ∙ c.in-Some.is))

pub returns-in-None : goal.returns-in-None
returns-in-None c =
    c.keys.ensures
    ∙ sym (vacant_is c.self.inside.names.items c.self.inside.chains c.args.self.now c.self.view_is ∙ ap (λ (o : Option ℕ). unwrap_or o (length c.self.inside.chains.homes)) (sym c.last.ensures ∙ c.in-None.is))
