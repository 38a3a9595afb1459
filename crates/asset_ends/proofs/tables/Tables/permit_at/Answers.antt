use Rattle.std.proofs.Common.{refl, sym, ◌∙◌}
use Rattle.asset_names.proofs.Common.{on_ok_two}
use Rattle.asset_ends.proofs.ShowsLemmas.{permit_shows, live_shown}
use Rattle.asset_ends.proofs.StandingLemmas.{stand_as}
use Rattle.asset_ends.proofs.tables.Tables.permit_at.Goals as goal

pub invariant_of-self : goal.invariant_of-self
invariant_of-self c = record { locks = c.self.invariant.locks; seats = c.self.invariant.seats; tied = record { objects = c.self.invariant.tied.objects; locks = c.self.invariant.tied.locks; permits = c.add.ensures.tied; deps = c.self.invariant.tied.deps; numbers = c.self.invariant.tied.numbers } }

pub returns-clause-stand : goal.returns-clause-stand
returns-clause-stand c =
    let gives = rw (← c.self.view_is) at c.requires.giver in
    let takes = rw (← c.self.view_is) at c.requires.taker in
    rw (← c.self.view_is) (on_ok_two c.add.result
    (λ added same. λ opening steps stand. stand_as opening _ _ _ _ _ _ _ refl refl refl refl refl
    (permit_shows opening steps _ _ _ _ _ c.args.from.t c.args.to.t c.args.obs c.args.ops stand (sym (live_shown opening steps _ _ _ _ _ c.args.from.t.0 stand) ∙ gives) (sym (live_shown opening steps _ _ _ _ _ c.args.to.t.0 stand) ∙ takes) _ added same))
    c.add.ensures.covers c.add.ensures.opens)
