use Rattle.std.proofs.Common.{◌≡◌, ◌+◌, ◌-◌, length, not, sym, ap, ◌∙◌, arith}
use Rattle.std.specs.Prelude.{List}
use Rattle.asset_jobs.specs.Jobs.{Named, has_none, with_act}
use Rattle.asset_jobs.proofs.DraftLemmas.{names_stay, last_acts, some_jobs, no_jobs}
use Rattle.asset_jobs.proofs.drafts.Draft.push_act.Goals as goal
use Rattle.asset_jobs.proofs.drafts.Draft.push_act.Goals.{in-Ok, in-Err}

pub returns-then-count-eq0-clause-added : goal.returns-then-count-eq0-clause-added
returns-then-count-eq0-clause-added c =
    let jobs = c.self.inside.jobs in
    let none : length jobs.items ≡ 0 = omega (arith, jobs.ok, c.len-count.ensures, c.if-count-eq0.true) in
    ap not (sym (no_jobs jobs.items none) ∙ ap has_none c.self.view_is)

pub invariant_of-self : goal.invariant_of-self
invariant_of-self c = c.self.invariant ∙ sym (names_stay _ c.self.inside.jobs.items c.index_mut.result.now c.push.new.self c.index_mut.ensures.value)

pub returns-clause-added : goal.returns-clause-added
returns-clause-added c =
    let jobs = c.self.inside.jobs in
    let some = some_jobs jobs.items (λ none. c.if-count-eq0.false (omega (arith, jobs.ok, c.len-count.ensures, none))) in
    elim c.match-push.branch [
      | in-Ok w ↦ rw w.result-is (ap not (sym some ∙ ap has_none c.self.view_is))
      | in-Err w ↦ rw w.result-is tt
    ]

pub returns-clause-grown : goal.returns-clause-grown
returns-clause-grown c =
    let jobs = c.self.inside.jobs in
    elim c.match-push.branch [
      | in-Ok w ↦
          let last : (c.len-count.result - 1) + 1 ≡ length jobs.items = omega (arith, jobs.ok, c.len-count.ensures, c.if-count-eq0.false) in
          rw w.result-is (last_acts _ jobs.items c.index_mut.result.now c.push.new.self c.args.act c.index_mut.ensures.value w.in-Ok.ensures.items last ∙ ap (λ (l : List Named). with_act l c.args.act) c.self.view_is)
      | in-Err w ↦ rw w.result-is tt
    ]
