use Rattle.std.proofs.Common.{◌&&◌, is_some, sym, ap, ◌∙◌}
use Rattle.asset_names.specs.OpSets.{has_op}
use Rattle.asset_chains.specs.Chained.{Chained, home_of}
use Rattle.asset_lock_store.specs.declared.lock.Lock.{Lock}
use Rattle.asset_lock_store.proofs.GrantLemmas.{own_again, others_again, own_granted, others_granted, alone_after}
use Rattle.asset_lock_store.proofs.store.LockStore.take.Goals as goal

pub returns-then-has-clause-own : goal.returns-then-has-clause-own
returns-then-has-clause-own c = own_again c.args.self.now c.laws.ensures.stored c.laws.ensures.owners c.args.key c.args.c c.args.op c.requires.home (ap (λ (l : Lock). l.granted && has_op l.ops c.args.op) (sym c.lock.ensures) ∙ sym c.has.ensures ∙ c.if-has.true)

pub returns-then-has-clause-others : goal.returns-then-has-clause-others
returns-then-has-clause-others c = others_again c.args.self.now c.laws.ensures.stored c.laws.ensures.owners c.args.key c.args.c c.args.op c.requires.home (ap (λ (l : Lock). l.granted && has_op l.ops c.args.op) (sym c.lock.ensures) ∙ sym c.has.ensures ∙ c.if-has.true)

pub suspend_for-requires-clause-alone : goal.suspend_for-requires-clause-alone
suspend_for-requires-clause-alone c = c.requires.alone

pub grant_at-requires-clause-there : goal.grant_at-requires-clause-there
grant_at-requires-clause-there c = ap (λ (t : Chained). is_some (home_of t c.args.key)) c.suspend_for.ensures.by_owner ∙ ap is_some c.requires.home

pub grant_at-requires-clause-apart : goal.grant_at-requires-clause-apart
grant_at-requires-clause-apart c = alone_after c.args.self.now c.laws.ensures.stored c.laws.ensures.owners c.args.key c.args.c c.args.op c.requires.home c.suspend_for.new.self c.suspend_for.ensures

pub returns-clause-own : goal.returns-clause-own
returns-clause-own c = own_granted c.args.self.now c.laws.ensures.stored c.laws.ensures.owners c.args.key c.args.c c.args.op c.requires.home c.suspend_for.new.self c.grant_at.new.self c.suspend_for.ensures c.grant_at.ensures.locks c.grant_at.ensures.by_owner

pub returns-clause-others : goal.returns-clause-others
returns-clause-others c = others_granted c.args.self.now c.laws.ensures.stored c.laws.ensures.owners c.args.key c.args.c c.args.op c.requires.home c.suspend_for.new.self c.grant_at.new.self c.suspend_for.ensures c.grant_at.ensures.locks c.grant_at.ensures.by_owner

pub returns-clause-by_owner : goal.returns-clause-by_owner
returns-clause-by_owner c = c.grant_at.ensures.by_owner ∙ c.suspend_for.ensures.by_owner
