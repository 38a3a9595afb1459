use Rattle.std.proofs.Common.{refl, sym, ◌∙◌, ap}
use Rattle.asset_names.specs.Answers.{is_unknown}
use Rattle.asset_names.specs.Endings.{is_live_status}
use Rattle.asset_names.specs.declared.statuses.Status.TheVariants as Status'
use Rattle.asset_ends.specs.Ended.{locks_of}
use Rattle.asset_ends.proofs.EnrolledLemmas.{changed_enrolled, changed_seated}
use Rattle.asset_ends.proofs.ShowsLemmas.{complete_shows}
use Rattle.asset_ends.proofs.StandingLemmas.{stand_as}
use Rattle.asset_ends.proofs.tables.Tables.complete.Goals as goal

pub invariant_of-self : goal.invariant_of-self
unfolding is_unknown is_live_status
invariant_of-self c =
    let runs = rw (← c.self.view_is) at c.requires.runs in
    rw c.complete.ensures (record {
      locks = changed_enrolled c.self.inside.parts.trans (locks_of c.self.inside.parts) c.args.t.0 Status'.Completed (ap is_unknown runs) (ap is_live_status runs) c.self.invariant.locks;
      seats = changed_seated c.self.inside.parts.trans c.self.inside.parts.seats c.args.t.0 Status'.Completed (ap is_live_status runs) refl c.self.invariant.seats;
      tied = c.self.invariant.tied;
    })

pub returns-clause-stand : goal.returns-clause-stand
returns-clause-stand c =
    let runs = rw (← c.self.view_is) at c.requires.runs in
    rw (← c.self.view_is) (λ opening steps stand.
    stand_as opening _ _ _ _ _ _ _ c.complete.ensures refl refl refl refl (complete_shows opening steps _ _ _ _ _ c.args.t stand (sym (stand.statuses c.args.t.0) ∙ runs)))
