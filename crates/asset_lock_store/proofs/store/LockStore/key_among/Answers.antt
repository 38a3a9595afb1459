use Rattle.std.proofs.Common.{sym, ◌∙◌}
use Rattle.asset_lock_store.specs.Stored.{part_for}
use Rattle.asset_lock_store.proofs.BlockLemmas.{if_some, if_none, found_on, absent_in, absent_unnumbered}
use Rattle.asset_lock_store.proofs.store.LockStore.key_among.Goals as goal

pub returns-else-len-keys-clause-found : goal.returns-else-len-keys-clause-found
unfolding part_for
returns-else-len-keys-clause-found c =
    if_some c.find_in.result c.find_in.ensures.found (λ k h. (h.1, found_on c.args.self.now c.laws.ensures.stored c.args.x.0 c.in-Some.list (sym c.requires.number ∙ c.in-Some.is) k c.args.c c.args.section h.1 h.0))

pub returns-else-len-keys-clause-none : goal.returns-else-len-keys-clause-none
unfolding part_for
returns-else-len-keys-clause-none c =
    if_none c.find_in.result c.find_in.ensures.none (λ none k home.
    absent_in c.args.self.now c.laws.ensures.stored c.args.x.0 c.in-Some.list (sym c.requires.number ∙ c.in-Some.is) k c.args.c c.args.section c.requires.class none home)

pub returns-in-None-clause-none : goal.returns-in-None-clause-none
returns-in-None-clause-none c = λ k home. absent_unnumbered c.args.self.now c.laws.ensures.stored c.args.x.0 (sym c.requires.number ∙ c.in-None.is) k c.args.c home
