use Rattle.std.proofs.Common.{not, refl, sym, ap, ◌∙◌}
use Rattle.std.specs.Prelude.{List, map}
use Rattle.asset_jobs.specs.Jobs.{Named, has_job}
use Rattle.asset_jobs.specs.Scripts.{named}
use Rattle.asset_jobs.proofs.JobsLemmas.{found_job}
use Rattle.asset_jobs.proofs.drafts.Draft.add.Goals as goal

pub returns-in-Ok-true-clause-added : goal.returns-in-Ok-true-clause-added
returns-in-Ok-true-clause-added c =
    let fields = c.self.inside in
    let found = found_job _ c.args.t (λ u. refl) fields.names.keys (map named fields.jobs.items) c.self.invariant in
    sym c.in-Ok-true.field-0-test ∙ c.in-Ok-true.ensures.added ∙ ap not (found ∙ ap (λ (jobs : List Named). has_job jobs c.args.t) c.self.view_is)

pub returns-in-Ok-false-clause-added : goal.returns-in-Ok-false-clause-added
returns-in-Ok-false-clause-added c =
    let fields = c.self.inside in
    let found = found_job _ c.args.t (λ u. refl) fields.names.keys (map named fields.jobs.items) c.self.invariant in
    sym c.in-Ok-false.field-0-test ∙ c.in-Ok-false.ensures.added ∙ ap not (found ∙ ap (λ (jobs : List Named). has_job jobs c.args.t) c.self.view_is)
