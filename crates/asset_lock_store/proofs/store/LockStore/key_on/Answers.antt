use Rattle.std.proofs.Common.{sym, ◌∙◌}
use Rattle.asset_lock_store.proofs.BlockLemmas.{if_some, if_none, found_on, absent_on, absent_unnumbered}
use Rattle.asset_lock_store.proofs.store.LockStore.key_on.Goals as goal

pub returns-else-len-on_object-clause-found : goal.returns-else-len-on_object-clause-found
returns-else-len-on_object-clause-found c = if_some c.find_on.result c.find_on.ensures.found (λ k h. (h.1, found_on c.args.self.now c.laws.ensures.stored c.args.x.0 c.in-Some.number (sym c.requires ∙ c.in-Some.is) k c.args.c h.0.0 h.1 h.0.1))

pub returns-else-len-on_object-clause-none : goal.returns-else-len-on_object-clause-none
returns-else-len-on_object-clause-none c = if_none c.find_on.result c.find_on.ensures.none (λ none k home. absent_on c.args.self.now c.laws.ensures.stored c.args.x.0 c.in-Some.number (sym c.requires ∙ c.in-Some.is) k c.args.c none home)

pub returns-in-None-clause-none : goal.returns-in-None-clause-none
returns-in-None-clause-none c = λ k home. absent_unnumbered c.args.self.now c.laws.ensures.stored c.args.x.0 (sym c.requires ∙ c.in-None.is) k c.args.c home
