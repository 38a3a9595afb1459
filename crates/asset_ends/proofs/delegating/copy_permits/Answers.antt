use Rattle.std.proofs.Common.{◌≡◌, Bool, true, false, ◌&&◌, ◌||◌, refl, sym, ◌∙◌}
use Rattle.asset_permits.specs.Valid.{permits_in}
use Rattle.asset_permits.proofs.GivingLemmas.{gives_nothing, opens_nothing}
use Rattle.asset_ends.proofs.delegating.copy_permits.Goals as goal

nothing_more : (one both more : Bool) → more ≡ false → one ≡ (one || both && more)
nothing_more one both true h = cc
nothing_more true both false h = refl
nothing_more false true false h = refl
nothing_more false false false h = refl

pub returns-then-not-gives-clause-covers : goal.returns-then-not-gives-clause-covers
returns-then-not-gives-clause-covers c =
    λ u t x op. nothing_more _ _ _ (gives_nothing (permits_in c.args.permits.now) c.args.giver.t.0 t x op (sym c.gives.ensures ∙ c.if-not-gives.true))

pub returns-then-not-gives-clause-opens : goal.returns-then-not-gives-clause-opens
returns-then-not-gives-clause-opens c =
    λ u x op. nothing_more _ _ _ (opens_nothing (permits_in c.args.permits.now) c.args.giver.t.0 x op (sym c.gives.ensures ∙ c.if-not-gives.true))

pub returns-clause-covers : goal.returns-clause-covers
returns-clause-covers c = rw (c.deref.ensures, c.in_ok-moved.ensures.held) at c.copy_for.ensures.covers

pub returns-clause-opens : goal.returns-clause-opens
returns-clause-opens c = rw (c.deref.ensures, c.in_ok-moved.ensures.held) at c.copy_for.ensures.opens
