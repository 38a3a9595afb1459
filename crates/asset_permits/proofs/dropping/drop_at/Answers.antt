use Rattle.std.proofs.Common.{◌≡◌, ℕ, cond, eqb, not, true, ◌&&◌, Option, None, is_some, sym, ap, ◌∙◌}
use Rattle.std.proofs.lemmas.Bool.{false≢true}
use Rattle.slab.specs.Slab.{get}
use Rattle.asset_chains.specs.Chained.{home_of}
use Rattle.asset_chains.specs.declared.side.Side.{Side}
use Rattle.asset_chains.specs.declared.side.Side.TheVariants.{Row, Column}
use Rattle.asset_chains.specs.Crossed.{Crossed, lines, IsCrossed}
use Rattle.asset_permits.specs.Descriptors.{Descriptor}
use Rattle.asset_names.specs.declared.names.Txn.{Txn}
use Rattle.asset_permits.specs.Valid.{is_used}
use Rattle.asset_permits.proofs.DropLemmas.{dropped_used}
use Rattle.asset_permits.proofs.dropping.drop_at.Goals as goal

pub returns-in-Some-home-clause-used : goal.returns-in-Some-home-clause-used
returns-in-Some-home-clause-used c =
    let fewer = c.remove.new.self in
    dropped_used c.args.permits.now fewer c.args.seats.now c.leave_if_unused-in-Some-home.new.seats c.args.key c.in-Some.from c.in-Some-home.to c.requires.used c.laws.ensures.crossed c.laws-in-Some-home.ensures.crossed (sym c.in-Some.ensures) (sym c.in-Some-home.ensures) c.remove.ensures.items c.remove.ensures.lines
    (λ d. c.leave_if_unused-in-Some-home.ensures d ∙ ap (λ (o : Option Txn). cond (eqb d c.in-Some-home.to && not (is_used fewer.rows fewer.columns d)) None o) (c.leave_if_unused.ensures d))

-- a permit has both homes
no_home : (permits : Crossed Descriptor) (side : Side) (key : ℕ) → IsCrossed permits → is_some (get permits.items key) ≡ true → None ≡ home_of (lines side permits) key → ⊥
no_home permits side key crossed there none = false≢true (ap is_some none ∙ crossed.placed side key ∙ there)

pub returns-in_default-clause-gone : goal.returns-in_default-clause-gone
returns-in_default-clause-gone c = absurd (no_home c.args.permits.now Row c.args.key c.laws.ensures.crossed c.requires.there (sym c.in_default.is ∙ c.home.ensures))

pub returns-in_default-clause-fewer : goal.returns-in_default-clause-fewer
returns-in_default-clause-fewer c = absurd (no_home c.args.permits.now Row c.args.key c.laws.ensures.crossed c.requires.there (sym c.in_default.is ∙ c.home.ensures))

pub returns-in_default-home-clause-gone : goal.returns-in_default-home-clause-gone
returns-in_default-home-clause-gone c = absurd (no_home c.args.permits.now Column c.args.key c.laws.ensures.crossed c.requires.there (sym c.in_default-home.is ∙ c.home-in-Some.ensures))

pub returns-in_default-home-clause-fewer : goal.returns-in_default-home-clause-fewer
returns-in_default-home-clause-fewer c = absurd (no_home c.args.permits.now Column c.args.key c.laws.ensures.crossed c.requires.there (sym c.in_default-home.is ∙ c.home-in-Some.ensures))
