use Rattle.std.proofs.Common.{List, length, ◌++◌, ◌∷◌, [], sym, ap, ◌∙◌, subst, arith, rules}
use Rattle.asset_names.specs.declared.steps.Step.TheVariants.{Initiate}
use Rattle.asset_audit.specs.Audited.{Call}
use Rattle.asset_manager.specs.Asker.{Asker}
use Rattle.asset_runner.specs.Initiated.{IsInitiated}
use Rattle.asset_runner.proofs.ArrivedLemmas.{tickets_more}
use Rattle.asset_runner.proofs.InitiatedLemmas.{is_initiation, initiated}
use Rattle.asset_runner.proofs.plan.Plan.initiate_with_room.Goals as goal

pub cause_of-requires : goal.cause_of-requires
cause_of-requires g c = is_initiation c.args.t c.args.parent c.call_lent-outcome.result c.call_lent-outcome.ensures.answer

pub invariant_of-self-2-clause-tickets : goal.invariant_of-self-2-clause-tickets
invariant_of-self-2-clause-tickets g c =
    tickets_more (λ j. (j.place, j.name.0)) c.args.self.now.jobs.items c.push_reserved-2.new.self.items c.new-job.result
    c.args.self.now.names.items c.push_reserved.new.self.items c.new-job.result.name c.len-place.result
    (c.push_reserved-2.ensures.items ∙ ap (λ l. l ++ c.new-job.result ∷ []) c.make_room.ensures.planned)
    (c.push_reserved.ensures.items ∙ (λ i. c.make_room.ensures.names i ++ sym c.new-job.ensures.named.1 i ∷ []))
    (λ i. (c.new-job.ensures.named.0 i, c.new-job.result.name.0))
    (omega (arith, c.len-place.ensures, ap length c.make_room.ensures.names, c.make_room.new.self.names.ok))
    c.args.self.now.tickets

pub returns-clause-asked : goal.returns-clause-asked
returns-clause-asked g c =
    let same = ap (λ (asker : Asker). asker.list.calls) (c.session_for.ensures.same ∙ c.make_room.ensures.session) in
    subst (λ (calls : List Call). IsInitiated calls (Initiate c.args.t c.args.parent) c.call_lent-outcome.new.self.list.calls) same
    (initiated c.session_for.new.own.list.calls c.call_lent-outcome.new.self.list.calls (Initiate c.args.t c.args.parent) c.call_lent-outcome.result
    (is_initiation c.args.t c.args.parent c.call_lent-outcome.result c.call_lent-outcome.ensures.answer)
    (sym c.cause_of.ensures ∙ c.in_default-cause_of.is) c.call_lent-outcome.ensures.listed)

pub returns-clause-names : goal.returns-clause-names
returns-clause-names g c = search rules

pub returns-clause-planned : goal.returns-clause-planned
returns-clause-planned g c =
    let job = c.new-job.result in (
      job,
      c.push_reserved-2.ensures.items ∙ ap (λ l. l ++ job ∷ []) c.make_room.ensures.planned,
      (c.new-job.ensures.named.1, c.new-job.ensures.named.2 ∙ c.make_room.ensures.turns, c.new-job.ensures.own.0, search rules, ap (λ (asker : Asker). asker.list.calls) c.new-job.ensures.own.1 ∙ search rules, rw c.new-job.ensures.own.1 (search rules)),
    )
