use Rattle.std.proofs.Common.{◌++◌, ◌∷◌, [], sym, ap, ◌∙◌, append_assoc, arith, rules}
use Rattle.std.proofs.lemmas.List.{length-append}
use Rattle.std.proofs.lemmas.Grind.{common_steps}
use Rattle.asset_manager.specs.Asker.{Asker}
use Rattle.asset_runner.proofs.ArrivedLemmas.{pushed, kept_one, kept_none, calls_more, more_after}
use Rattle.asset_runner.proofs.report.hand_out.Goals as goal

pub order-preserved-in-Some-body : goal.order-preserved-in-Some-body
order-preserved-in-Some-body g c =
    let arrival = c.in-Some.arrival in
    let left = sym c.into_parts-session.ensures.left ∙ c.in-Some-body.is in (
      pushed (λ j. (j.name, j.body)) c.order.left.items c.push_reserved-in-Some-body.new.self.items _ _ _ c.push_reserved-in-Some-body.ensures.items c.order.invariant.0 (λ i. (c.into_parts-session.ensures.name i, c.in-Some-body.body)) ∙ sym (kept_one c.order.yielded arrival c.in-Some-body.body left),
      calls_more c.order.sessions.items c.push_reserved.new.self.items c.args.sessions.items _ c.order.yielded arrival c.push_reserved.ensures.items (ap (λ (s : Asker). s.list.calls) c.into_parts-session.ensures.session) c.order.invariant.1,
      append_assoc c.order.yielded (arrival ∷ []) c.next.new.self.rest.items ∙ ap (λ l. c.order.yielded ++ l) (sym c.in-Some.ensures.steps.0) ∙ c.order.invariant.2,
      omega (arith, c.push_reserved-in-Some-body.ensures.len, c.push_reserved-in-Some-body.new.self.ok, c.order.left.ok, length-append c.order.yielded (arrival ∷ []), c.order.invariant.3),
      omega (arith, c.push_reserved-in-Some-body.ensures.capacity, c.order.invariant.4),
      omega (arith, c.push_reserved.ensures.len, c.push_reserved.new.self.ok, c.order.sessions.ok, length-append c.order.yielded (arrival ∷ []), c.order.invariant.5),
      omega (arith, c.push_reserved.ensures.capacity, c.order.invariant.6),
      more_after c.args.sessions.items c.order.sessions.items c.push_reserved.new.self.items _ c.push_reserved.ensures.items c.order.invariant.7,
    )

pub order-preserved : goal.order-preserved
order-preserved g c =
    let arrival = c.in-Some.arrival in
    let called = sym c.into_parts-session.ensures.left ∙ c.in-None-body.is in (
      c.order.invariant.0 ∙ sym (kept_none c.order.yielded arrival called),
      calls_more c.order.sessions.items c.push_reserved.new.self.items c.args.sessions.items _ c.order.yielded arrival c.push_reserved.ensures.items (ap (λ (s : Asker). s.list.calls) c.into_parts-session.ensures.session) c.order.invariant.1,
      append_assoc c.order.yielded (arrival ∷ []) c.next.new.self.rest.items ∙ ap (λ l. c.order.yielded ++ l) (sym c.in-Some.ensures.steps.0) ∙ c.order.invariant.2,
      omega (arith, length-append c.order.yielded (arrival ∷ []), c.order.invariant.3),
      c.order.invariant.4,
      omega (arith, c.push_reserved.ensures.len, c.push_reserved.new.self.ok, c.order.sessions.ok, length-append c.order.yielded (arrival ∷ []), c.order.invariant.5),
      omega (arith, c.push_reserved.ensures.capacity, c.order.invariant.6),
      more_after c.args.sessions.items c.order.sessions.items c.push_reserved.new.self.items _ c.push_reserved.ensures.items c.order.invariant.7,
    )

pub returns-clause-left : goal.returns-clause-left
returns-clause-left g c = grind (arith, common_steps)

pub returns-clause-first : goal.returns-clause-first
returns-clause-first g c = search rules

pub returns-clause-sessions : goal.returns-clause-sessions
returns-clause-sessions g c = grind (arith, common_steps)
