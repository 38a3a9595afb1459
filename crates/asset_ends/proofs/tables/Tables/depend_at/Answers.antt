use Rattle.std.proofs.Common.{refl, sym, ◌∙◌}
use Rattle.asset_names.proofs.Common.{on_ok}
use Rattle.asset_ends.proofs.ShowsLemmas.{depend_shows, live_shown}
use Rattle.asset_ends.proofs.StandingLemmas.{stand_as}
use Rattle.asset_ends.proofs.tables.Tables.depend_at.Goals as goal

pub invariant_of-self : goal.invariant_of-self
invariant_of-self c = record { locks = c.self.invariant.locks; seats = c.self.invariant.seats; tied = record { objects = c.self.invariant.tied.objects; locks = c.self.invariant.tied.locks; permits = c.self.invariant.tied.permits; deps = c.add.ensures.tied; numbers = c.self.invariant.tied.numbers } }

pub returns-clause-stand : goal.returns-clause-stand
returns-clause-stand c =
    let one = rw (← c.self.view_is) at c.requires.source in
    let other = rw (← c.self.view_is) at c.requires.dependent in
    rw (← c.self.view_is) (on_ok c.add.result
    (λ added. λ opening steps stand. stand_as opening _ _ _ _ _ _ _ refl refl refl refl refl
    (depend_shows opening steps _ _ _ _ _ c.args.kind c.args.source.t c.args.dependent.t stand (sym (live_shown opening steps _ _ _ _ _ c.args.source.t.0 stand) ∙ one) (sym (live_shown opening steps _ _ _ _ _ c.args.dependent.t.0 stand) ∙ other) _
    added))
    c.add.ensures.added)
