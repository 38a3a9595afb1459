use Rattle.std.proofs.Common.{ap, ◌∙◌, rules}
use Rattle.asset_lock_store.specs.declared.lock.Lock.{Lock}
use Rattle.asset_names.specs.Numbered.{number_in}
use Rattle.asset_lock_store.proofs.GrantLemmas.{suspended_already, pauses_as}
use Rattle.asset_lock_store.proofs.store.LockStore.suspend_for.Goals as goal

pub returns-then-not-conflicts : goal.returns-then-not-conflicts
returns-then-not-conflicts c = suspended_already c.args.self.now c.laws.ensures.stored c.laws.ensures.owners c.args.key c.args.c c.args.op c.requires.home (search rules) (c.requires.alone c.if-not-conflicts.true)

pub suspend_others-requires : goal.suspend_others-requires
suspend_others-requires c = ap (λ (l : Lock). number_in c.args.self.now.objects l.object.0) c.lock-lock.ensures ∙ c.number_at-number.ensures

pub returns : goal.returns
returns c = pauses_as c.args.self.now c.suspend_others.new.self c.args.key c.args.c c.args.op c.lock-lock.result c.with.result c.lock-lock.ensures c.with.ensures c.suspend_others.ensures
