use Rattle.std.proofs.Common.{◌≡◌, take, refl, ◌∙◌}
use Rattle.std.proofs.lemmas.List.{take_more, take_all}
use Rattle.asset_grammar.specs.declared.job_lines.JobAct.TheVariants.{Read}
use Rattle.asset_jobs.specs.Acts.{DoesActs, last_step}
use Rattle.asset_jobs.proofs.ActLemmas.{does_then, does_stop}
use Rattle.asset_jobs.proofs.acting.do_acts.Goals as goal

pub acts-init : goal.acts-init
unfolding DoesActs
acts-init g c = record { name = refl; manager = refl; did = (refl, refl) }

pub acts-preserved : goal.acts-preserved
acts-preserved g c =
    let acts = c.args.acts.now in
    let done = rw (c.if-not-act.false, c.acts.invariant.name) at c.act.ensures.did in
    record {
      name = c.act.ensures.same.name ∙ c.acts.invariant.name;
      manager = c.act.ensures.same.manager ∙ c.acts.invariant.manager;
      did = rw (take_more acts c.acts.next-index (Read (record { 0 = 0 })) c.acts-test.true) (does_then _ (take c.acts.next-index acts) _ _ _ _ _ c.acts.invariant.did done);
    }

pub returns-then-not-act-clause-did : goal.returns-then-not-act-clause-did
unfolding last_step
returns-then-not-act-clause-did g c =
    let stopped = rw (c.if-not-act.true, c.acts.invariant.name) at c.act.ensures.did in
    let name = c.act.ensures.same.name ∙ c.acts.invariant.name in
    record {
      between = c.act.new.tx.list.calls;
      did = rw c.give_up.ensures.own.1 (does_stop c.args.tx.name c.args.acts.now c.acts.next-index (Read (record { 0 = 0 })) _ _ _ c.acts-test.true c.acts.invariant.did stopped);
      last = rw (c.give_up.ensures.own.1, ← name) c.give_up.ensures.asked;
    }

pub returns-clause-did : goal.returns-clause-did
unfolding last_step
returns-clause-did g c =
    let all : take c.acts.next-index c.args.acts.now ≡ c.args.acts.now = take_all c.acts.next-index c.args.acts.now c.acts-test.false in
    record {
      between = c.acts.tx.list.calls;
      did = rw c.done.ensures.own.1 (rw all at c.acts.invariant.did);
      last = rw (c.done.ensures.own.1, ← c.acts.invariant.name) c.done.ensures.asked;
    }
